use Rattle.std.proofs.Common.{◌≡◌, ◌≢◌, ℕ, ◌==◌, ◌&&◌, not, nat_le, min, cond, Bool, true, false, List, ◌∷◌, ◌++◌, length, refl, sym, ap, ◌∙◌, arith, Option, Some, None, Ok, Err, subst}
use Rattle.std.proofs.lemmas.Bool.{and_from, and_parts, cases_Bool, cases_eq, cases_lt, and_right, lt-leb, cond-true, cond-false, eq-eqb, ne_eqb, le-leb, leb-true, ltb-true, not_from_true, not_from_false}
use Rattle.std.proofs.lemmas.List.{length-append}
use Rattle.std.specs.{Fmt.decimal, Int.IsInRange, Int.is_in_range, Str.Parse.IsNumeral, Str.Parse.digits_value}
use Rattle.echo_addr.specs.Address.{IsAddress, AddressOf, address_text, has_shape, has_digits, is_in_bounds, zone_part, net_part, node_part, refusal, address_in, address_within, answer_of, outcome}
use Rattle.echo_addr.specs.declared.{address.Address.Address, fault.AddrFault.AddrFault}
use Rattle.echo_addr.specs.declared.fault.AddrFault.TheVariants.{Empty, Shape, NotDigits, OutOfRange}
use Rattle.echo_addr.specs.Digits.{is_number}
use Rattle.echo_addr.proofs.Shapes.{Spelled, spelled_shape, spelled_zone, spelled_net, spelled_node, shape_parts}
use Rattle.echo_addr.proofs.Decimals.{own, is_number-writes, writes_decimal}

pub refusal_empty : (b : List ℕ) → length b ≡ 0 → refusal b ≡ Some Empty
unfolding refusal
refusal_empty b empty = cond-true (length b == 0) (Some Empty) _ (eq-eqb (length b) 0 empty)

pub refusal_shape : (b : List ℕ) → length b ≢ 0 → has_shape b ≡ false → refusal b ≡ Some Shape
unfolding refusal
refusal_shape b some other =
    cond-false (length b == 0) (Some Empty) _ (ne_eqb (length b) 0 some) ∙ cond-true (not (has_shape b)) (Some Shape) _ (not_from_false _ other)

pub refusal_digits : (b : List ℕ) → length b ≢ 0 → has_shape b ≡ true → has_digits b ≡ false → refusal b ≡ Some NotDigits
unfolding refusal
refusal_digits b some shape other = grind (arith, cond-false, ne_eqb, not_from_true, cond-true, not_from_false)

refusal_last : (b : List ℕ) → length b ≢ 0 → has_shape b ≡ true → has_digits b ≡ true
    → refusal b ≡ cond (not (is_in_bounds b)) (Some OutOfRange) None
unfolding refusal
refusal_last b some shape digits = grind (arith, cond-false, ne_eqb, not_from_true)

pub refusal_range : (b : List ℕ) → length b ≢ 0 → has_shape b ≡ true → has_digits b ≡ true → is_in_bounds b ≡ false → refusal b ≡ Some OutOfRange
refusal_range b some shape digits other =
    refusal_last b some shape digits ∙ cond-true (not (is_in_bounds b)) (Some OutOfRange) None (not_from_false _ other)

pub refusal_none : (b : List ℕ) → length b ≢ 0 → has_shape b ≡ true → has_digits b ≡ true → is_in_bounds b ≡ true → refusal b ≡ None
refusal_none b some shape digits fits =
    refusal_last b some shape digits ∙ cond-false (not (is_in_bounds b)) (Some OutOfRange) None (not_from_true _ fits)

in_test : (low high n : ℕ) → IsInRange low high n → is_in_range low high n ≡ true
in_test low high n h = and_from _ _ (le-leb low n h.0) (le-leb n high h.1)

in_fact : (low high n : ℕ) → is_in_range low high n ≡ true → IsInRange low high n
in_fact low high n h = let parts = and_parts _ _ h in (leb-true low n parts.0, leb-true n high parts.1)

numeral_from : (ds : List ℕ) → is_number ds ≡ true → IsNumeral 10 ds
numeral_from ds h = let parts = and_parts _ _ h in (ltb-true 0 (length ds) parts.0, own.to ds parts.1)

spelled : (b : List ℕ) (a : Address) → (w : AddressOf b a) → Spelled b w.zone_digits w.net_digits w.node_digits
spelled b a w = record { zone = w.zone.numeral; net = w.net.numeral; node = w.node.numeral; bytes = w.bytes }

abbrev address : ℕ → ℕ → ℕ → Address
address zone net node = record { zone = zone; net = net; node = node }

same_address : (x y z u v w : ℕ) → x ≡ u → y ≡ v → z ≡ w → address x y z ≡ address u v w
same_address x y z u v w ex ey ez = ap (λ t. address t y z) ex ∙ ap (λ t. address u t z) ey ∙ ap (address u v) ez

pub address_in-written : (b : List ℕ) (a : Address) → AddressOf b a → address_in b ≡ a
address_in-written b a w =
    let h = spelled b a w in
    same_address _ _ _ a.zone a.net a.node (ap (digits_value 10) (spelled_zone b _ _ _ h) ∙ w.zone.value)
    (ap (digits_value 10) (spelled_net b _ _ _ h) ∙ w.net.value) (ap (digits_value 10) (spelled_node b _ _ _ h) ∙ w.node.value)

pub refusal-written : (b : List ℕ) (a : Address) → AddressOf b a → refusal b ≡ None
refusal-written b a w =
    let h = spelled b a w in
    let some : length b ≢ 0 = λ e. omega (arith, ap length w.bytes, length-append w.zone_digits (58 ∷ (w.net_digits ++ 47 ∷ w.node_digits))) in
    let digits : has_digits b ≡ true =
    and_from _ _ (and_from _ _ (ap is_number (spelled_zone b _ _ _ h) ∙ is_number-writes w.zone_digits h.zone)
    (ap is_number (spelled_net b _ _ _ h) ∙ is_number-writes w.net_digits h.net))
    (ap is_number (spelled_node b _ _ _ h) ∙ is_number-writes w.node_digits h.node) in
    let parts = address_in-written b a w in
    let fits : is_in_bounds b ≡ true =
    and_from _ _ (and_from _ _ (ap (λ x. is_in_range 1 32767 x.zone) parts ∙ in_test 1 32767 a.zone w.in_range.zone)
    (ap (λ x. is_in_range 1 32767 x.net) parts ∙ in_test 1 32767 a.net w.in_range.net))
    (ap (λ x. is_in_range 0 32767 x.node) parts ∙ in_test 0 32767 a.node w.in_range.node) in
    refusal_none b some (spelled_shape b _ _ _ h) digits fits

written : (b : List ℕ) → has_shape b ≡ true → has_digits b ≡ true → is_in_bounds b ≡ true → AddressOf b (address_in b)
written b shape digits fits =
    let numbers = and_parts _ _ digits in
    let first = and_parts _ _ numbers.0 in
    let bounds = and_parts _ _ fits in
    let low = and_parts _ _ bounds.0 in
    record {
      zone_digits = zone_part b;
      net_digits = net_part b;
      node_digits = node_part b;
      bytes = shape_parts b shape;
      zone = record { numeral = numeral_from (zone_part b) first.0; value = refl };
      net = record { numeral = numeral_from (net_part b) first.1; value = refl };
      node = record { numeral = numeral_from (node_part b) numbers.1; value = refl };
      in_range = record {
        zone = in_fact 1 32767 (digits_value 10 (zone_part b)) low.0;
        net = in_fact 1 32767 (digits_value 10 (net_part b)) low.1;
        node = in_fact 0 32767 (digits_value 10 (node_part b)) bounds.1;
      };
    }

pub AddressOf-from_refusal : (b : List ℕ) → refusal b ≡ None → AddressOf b (address_in b)
AddressOf-from_refusal b none = grind (arith, cases_eq, refusal_empty, cases_Bool, refusal_shape, refusal_digits, refusal_range, written)

by_refusal : (b : List ℕ) (a : Address) (o : Option AddrFault) → refusal b ≡ o → answer_of o (address_in b) ≡ Ok a → AddressOf b a
by_refusal b a None none e = let same : address_in b ≡ a = cc in subst (AddressOf b) same (AddressOf-from_refusal b none)
by_refusal b a (Some f) some e = absurd cc

pub outcome_ok : (b : List ℕ) (a : Address) → outcome b ≡ Ok a → AddressOf b a
outcome_ok b a e = by_refusal b a (refusal b) refl e

pub outcome-written : (b : List ℕ) (a : Address) → AddressOf b a → outcome b ≡ Ok a
outcome-written b a w = ap (λ o. answer_of o (address_in b)) (refusal-written b a w) ∙ ap Ok (address_in-written b a w)

pub AddressOf-address_text : (a : Address) → IsAddress a → AddressOf (address_text a) a
AddressOf-address_text a h = record {
  zone_digits = decimal a.zone;
  net_digits = decimal a.net;
  node_digits = decimal a.node;
  bytes = refl;
  zone = writes_decimal a.zone (omega (arith, h.zone.1));
  net = writes_decimal a.net (omega (arith, h.net.1));
  node = writes_decimal a.node (omega (arith, h.node.1));
  in_range = h;
}

pub outcome_refused : (b : List ℕ) (f : AddrFault) → refusal b ≡ Some f → Err f ≡ outcome b
outcome_refused b f some = sym (ap (λ o. answer_of o (address_in b)) some)

capped_range : (low v c : ℕ) → c ≡ min v 32768 → is_in_range low 32767 c ≡ is_in_range low 32767 v
capped_range low v c is = grind (arith, cases_lt, and_right, nat_le, lt-leb)

capped_value : (low v c : ℕ) → c ≡ min v 32768 → is_in_range low 32767 c ≡ true → c ≡ v
capped_value low v c is fits = omega (arith, (in_fact low 32767 c fits).1)

pub record Capped (b : List ℕ) (zone net node : ℕ) : Type 0 where
  pub zone_is : zone ≡ min (digits_value 10 (zone_part b)) 32768
  pub net_is : net ≡ min (digits_value 10 (net_part b)) 32768
  pub node_is : node ≡ min (digits_value 10 (node_part b)) 32768

same_tests : (x y z u v w : Bool) → x ≡ u → y ≡ v → z ≡ w → (x && y && z) ≡ (u && v && w)
same_tests x y z u v w ex ey ez = ap (λ t. t && y && z) ex ∙ ap (λ t. u && t && z) ey ∙ ap (λ t. u && v && t) ez

pub outcome_numbers : (b : List ℕ) (zone net node : ℕ) → length b ≢ 0 → has_shape b ≡ true → has_digits b ≡ true → Capped b zone net node
    → address_within zone net node ≡ outcome b
outcome_numbers b zone net node some shape digits c = grind (arith, same_tests, capped_range, cases_Bool, and_parts, same_address, capped_value, cond-true, refusal_none, cond-false, outcome_refused, refusal_range)

pub parts_test : (b z n d : List ℕ) → z ≡ zone_part b → n ≡ net_part b → d ≡ node_part b
    → (is_number z && is_number n && is_number d) ≡ has_digits b
parts_test b z n d ez en ed = same_tests _ _ _ _ _ _ (ap is_number ez) (ap is_number en) (ap is_number ed)

pub Capped-from_parts : (b z n d : List ℕ) (zone net node : ℕ) → z ≡ zone_part b → n ≡ net_part b → d ≡ node_part b
    → zone ≡ min (digits_value 10 z) 32768 → net ≡ min (digits_value 10 n) 32768 → node ≡ min (digits_value 10 d) 32768
    → Capped b zone net node
Capped-from_parts b z n d zone net node ez en ed vz vn vd = grind arith
