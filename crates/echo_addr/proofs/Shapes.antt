-- The shape of an address, and the parts that it has.
use Rattle.std.proofs.Common.{◌≡◌, ℕ, ◌+◌, ◌-◌, ◌<◌, ◌==◌, ◌&&◌, nat_lt, cond, not, Bool, true, false, List, [], ◌∷◌, ◌++◌, length, get_or, take, drop, refl, sym, ap, ◌∙◌, arith, None, append_assoc, inl, inr}
use Rattle.std.proofs.lemmas.Bool.{and_left, and_right, and_from, and_parts, le-ltb, lt-ltb, ltb-true, ne_eqb, eq-eqb, eqb-true, cases_lt}
use Rattle.std.proofs.lemmas.List.{take_at, drop_at, length-append, drop-drop, drop_more, take-append-drop}
use Rattle.std.proofs.lemmas.List.Sums.{sum_by-cons, sum_by-append, passes_at_first}
use Rattle.std.specs.List.{AllByRecursion, position, position_or_len, count_by, slice_range}
use Rattle.std.specs.Str.Parse.{IsNumeral}
use Rattle.echo_addr.specs.Address.{is_colon, is_slash, has_shape, zone_part, net_part, node_part}
use Rattle.echo_addr.proofs.{Decimals.IsDigit, Decimals.each_digit, Each.weaker, Each.joined, Positions.position_or_len-le, Positions.position_none, Positions.count_none}

pub no_colon : (b : List ℕ) → position is_colon b ≡ None → has_shape b ≡ false
no_colon b none = grind (arith, position_none, position_or_len-le, and_right, le-ltb)

pub no_slash : (b : List ℕ) → position is_slash b ≡ None → has_shape b ≡ false
no_slash b none = grind (arith, count_none, position_none, and_left, and_right, ne_eqb)

abbrev pub NonePass : (ℕ → Bool) → List ℕ → Type 0
NonePass p s = AllByRecursion (λ x. p x ≡ false) s

pub position_at : (p : ℕ → Bool) (s : List ℕ) (x : ℕ) (r : List ℕ) → NonePass p s → p x ≡ true → position_or_len p (s ++ x ∷ r) ≡ length s
position_at p [] x r none passes = ap (λ t. cond (not t) (1 + position_or_len p r) 0) passes
position_at p (y ∷ s) x r none passes =
    ap (λ t. cond (not t) (1 + position_or_len p (s ++ x ∷ r)) 0) none.0 ∙ ap (λ n. 1 + n) (position_at p s x r none.1 passes) ∙ (omega arith)

pub count_of_none : (p : ℕ → Bool) (s : List ℕ) → NonePass p s → count_by p s ≡ 0
count_of_none p [] none = refl
count_of_none p (y ∷ s) none =
    sum_by-cons (λ b. cond (p b) 1 0) y s ∙ ap (λ t. cond t 1 0 + count_by p s) none.0 ∙ ap (λ n. 0 + n) (count_of_none p s none.1)

pub count_of_one : (p : ℕ → Bool) (s : List ℕ) (x : ℕ) (r : List ℕ) → NonePass p s → p x ≡ true → NonePass p r → count_by p (s ++ x ∷ r) ≡ 1
count_of_one p s x r before passes after =
    let front = count_of_none p s before in
    let back = count_of_none p r after in
    let here = sum_by-cons (λ b. cond (p b) 1 0) x r ∙ ap (λ t. cond t 1 0 + count_by p r) passes in
    let all = sum_by-append (λ b. cond (p b) 1 0) s (x ∷ r) in
    omega arith

digit_no_colon : (b : ℕ) → IsDigit b → is_colon b ≡ false
digit_no_colon b h = ne_eqb b 58 (λ e. omega (arith, h.1))

digit_no_slash : (b : ℕ) → IsDigit b → is_slash b ≡ false
digit_no_slash b h = ne_eqb b 47 (λ e. omega (arith, h.0))

no_colon_in : (ds : List ℕ) → IsNumeral 10 ds → NonePass is_colon ds
no_colon_in ds h = weaker IsDigit (λ b. is_colon b ≡ false) digit_no_colon ds (each_digit ds h.1)

no_slash_in : (ds : List ℕ) → IsNumeral 10 ds → NonePass is_slash ds
no_slash_in ds h = weaker IsDigit (λ b. is_slash b ≡ false) digit_no_slash ds (each_digit ds h.1)

pub record Spelled (b z n d : List ℕ) : Type 0 where
  pub zone : IsNumeral 10 z
  pub net : IsNumeral 10 n
  pub node : IsNumeral 10 d
  pub bytes : b ≡ z ++ 58 ∷ (n ++ 47 ∷ d)

from_slash : (b z n d : List ℕ) → Spelled b z n d → b ≡ (z ++ 58 ∷ n) ++ 47 ∷ d
from_slash b z n d h = h.bytes ∙ sym (append_assoc z (58 ∷ n) (47 ∷ d))

no_slash_before : (b z n d : List ℕ) → Spelled b z n d → NonePass is_slash (z ++ 58 ∷ n)
no_slash_before b z n d h =
    joined (λ x. is_slash x ≡ false) z (58 ∷ n) (no_slash_in z h.zone) (refl, no_slash_in n h.net)

no_colon_after : (b z n d : List ℕ) → Spelled b z n d → NonePass is_colon (n ++ 47 ∷ d)
no_colon_after b z n d h = joined (λ x. is_colon x ≡ false) n (47 ∷ d) (no_colon_in n h.net) (refl, no_colon_in d h.node)

pub colon_place : (b z n d : List ℕ) → Spelled b z n d → position_or_len is_colon b ≡ length z
colon_place b z n d h = ap (position_or_len is_colon) h.bytes ∙ position_at is_colon z 58 (n ++ 47 ∷ d) (no_colon_in z h.zone) refl

pub slash_place : (b z n d : List ℕ) → Spelled b z n d → position_or_len is_slash b ≡ length z + 1 + length n
slash_place b z n d h =
    ap (position_or_len is_slash) (from_slash b z n d h)
    ∙ position_at is_slash (z ++ 58 ∷ n) 47 d (no_slash_before b z n d h) refl
    ∙ omega (arith, length-append z (58 ∷ n))

pub spelled_shape : (b z n d : List ℕ) → Spelled b z n d → has_shape b ≡ true
spelled_shape b z n d h =
    let colons = ap (count_by is_colon) h.bytes ∙ count_of_one is_colon z 58 (n ++ 47 ∷ d) (no_colon_in z h.zone) refl (no_colon_after b z n d h) in
    let slashes = ap (count_by is_slash) (from_slash b z n d h)
    ∙ count_of_one is_slash (z ++ 58 ∷ n) 47 d (no_slash_before b z n d h) refl (no_slash_in d h.node) in
    let first = colon_place b z n d h in
    let second = slash_place b z n d h in
    and_from _ _ (and_from _ _ (eq-eqb _ _ colons) (eq-eqb _ _ slashes)) (lt-ltb _ _ (omega arith))

pub spelled_zone : (b z n d : List ℕ) → Spelled b z n d → zone_part b ≡ z
spelled_zone b z n d h =
    ap (λ k. take k b) (colon_place b z n d h) ∙ ap (take (length z)) h.bytes ∙ take_at z (58 ∷ (n ++ 47 ∷ d)) (length z) refl

pub spelled_node : (b z n d : List ℕ) → Spelled b z n d → node_part b ≡ d
spelled_node b z n d h =
    let k = length z + 1 + length n + 1 in
    let front : length ((z ++ 58 ∷ n) ++ 47 ∷ []) ≡ k = omega (arith, length-append (z ++ 58 ∷ n) (47 ∷ []), length-append z (58 ∷ n)) in
    ap (λ m. drop (m + 1) b) (slash_place b z n d h)
    ∙ ap (drop k) (from_slash b z n d h ∙ sym (append_assoc (z ++ 58 ∷ n) (47 ∷ []) d))
    ∙ drop_at ((z ++ 58 ∷ n) ++ 47 ∷ []) d k front

pub spelled_net : (b z n d : List ℕ) → Spelled b z n d → net_part b ≡ n
spelled_net b z n d h =
    let k = length z + 1 in
    let front : length (z ++ 58 ∷ []) ≡ k = length-append z (58 ∷ []) in
    let size : length z + 1 + length n - k ≡ length n = omega arith in
    ap (λ m. slice_range b (m + 1) (position_or_len is_slash b)) (colon_place b z n d h)
    ∙ ap (λ m. slice_range b k m) (slash_place b z n d h)
    ∙ ap (λ m. take m (drop k b)) size
    ∙ ap (λ l. take (length n) (drop k l)) (h.bytes ∙ sym (append_assoc z (58 ∷ []) (n ++ 47 ∷ d)))
    ∙ ap (take (length n)) (drop_at (z ++ 58 ∷ []) (n ++ 47 ∷ d) k front)
    ∙ take_at n (47 ∷ d) (length n) refl

pub shape_parts : (b : List ℕ) → has_shape b ≡ true → b ≡ zone_part b ++ 58 ∷ (net_part b ++ 47 ∷ node_part b)
shape_parts b shape =
    let c = position_or_len is_colon b in
    let s = position_or_len is_slash b in
    let tests = and_parts ((count_by is_colon b == 1) && (count_by is_slash b == 1)) (nat_lt c s) shape in
    let counts = and_parts (count_by is_colon b == 1) (count_by is_slash b == 1) tests.0 in
    let one : count_by is_slash b ≡ 1 = eqb-true (count_by is_slash b) 1 counts.1 in
    let order : c < s = ltb-true c s tests.1 in
    let within : s < length b = elim (cases_lt s (length b)) [
      | inl lt ↦ lt
      | inr ge ↦
          let le = position_or_len-le is_slash b in
          let none = count_none is_slash b (omega arith) in
          absurd (omega arith)
    ] in
    let colon : get_or b c 0 ≡ 58 = eqb-true _ _ (passes_at_first is_colon b 0 (omega arith)) in
    let slash : get_or b s 0 ≡ 47 = eqb-true _ _ (passes_at_first is_slash b 0 within) in
    let k = s - (c + 1) in
    let far : c + 1 + k ≡ s = omega arith in
    let tail : drop k (drop (c + 1) b) ≡ 47 ∷ drop (s + 1) b =
    drop-drop k (c + 1) b ∙ ap (λ m. drop m b) far ∙ drop_more b s 0 within ∙ ap (λ x. x ∷ drop (s + 1) b) slash in
    let rest : drop (c + 1) b ≡ net_part b ++ 47 ∷ node_part b =
    sym (take-append-drop k (drop (c + 1) b)) ∙ ap (λ t. take k (drop (c + 1) b) ++ t) tail in
    sym (take-append-drop c b)
    ∙ ap (λ t. take c b ++ t) (drop_more b c 0 (omega arith) ∙ ap (λ x. x ∷ drop (c + 1) b) colon ∙ ap (λ t. 58 ∷ t) rest)
