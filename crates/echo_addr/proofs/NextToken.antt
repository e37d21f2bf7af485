use Rattle.std.proofs.Common.{◌≡◌, ℕ, suc, ◌+◌, ◌-◌, ◌<◌, nat_le, nat_lt, not, cond, Bool, true, false, List, [], ◌∷◌, ◌++◌, length, get_or, take, drop, refl, sym, ap, ◌∙◌, arith, Option, Some, None, inl, inr}
use Rattle.std.proofs.lemmas.List.{take-append-drop, drop_more, drop_all, take_all, take_rest, get_or-take, length-take, length-take-le}
use Rattle.std.proofs.lemmas.Bool.{and_parts, cases_Bool, cases_lt, cond-false, not-true}
use Rattle.std.proofs.lemmas.List.{Elements.recursion_from_All, Sums.fails_before_first, Sums.passes_at_first}
use Rattle.std.specs.{List.AllByRecursion, List.position, List.position_or_len, Option.option_or, Option.unwrap_or, Str.all_ascii_digits}
use Rattle.echo_addr.specs.Entries.{is_blank, tokens, part_of, entry_from, pair_of}
use Rattle.echo_addr.specs.{declared.address.NetNode.NetNode, Address.is_slash, Digits.number_within}
use Rattle.echo_addr.proofs.Tokens.{IsInk, tokens_blank, tokens_one, tokens_more, tokens_nil}
use Rattle.echo_addr.proofs.{Decimals.IsDigit, Decimals.each_digit, Decimals.own, Each.weaker, ReadBack.digit_is_no_slash, ReadBack.entry_from_none, ReadBack.pair_of-hidden}
use Rattle.echo_addr.proofs.Positions.{position_or_len-le, position_some, position_none, unwrap_or-position}

abbrev pub is_other : ℕ → Bool
is_other b = not (is_blank b)

pub tokens_skip : (s : List ℕ) → tokens s ≡ tokens (drop (position_or_len is_other s) s)
tokens_skip [] = refl
tokens_skip (b ∷ s) = elim (cases_Bool (is_blank b)) [
  | inl y ↦
      let skip : position_or_len is_other (b ∷ s) ≡ suc (position_or_len is_other s) =
      ap (λ t. cond (not (not t)) (1 + position_or_len is_other s) 0) y ∙ (omega arith) in
      tokens_blank b s y ∙ tokens_skip s ∙ ap (λ n. tokens (drop n (b ∷ s))) (sym skip)
  | inr n ↦
      let stay : position_or_len is_other (b ∷ s) ≡ 0 = ap (λ t. cond (not (not t)) (1 + position_or_len is_other s) 0) n in
      ap (λ n. tokens (drop n (b ∷ s))) (sym stay)
]

pub tokens_front : (s : List ℕ) → 0 < position_or_len is_blank s
    → tokens s ≡ take (position_or_len is_blank s) s ∷ tokens (drop (position_or_len is_blank s) s)
tokens_front s some =
    let m = position_or_len is_blank s in
    let t = take m s in
    let within = position_or_len-le is_blank s in
    let ink : AllByRecursion IsInk t =
    recursion_from_All IsInk t (λ k d lt.
    let below : k < m = omega (arith, length-take m s) in
    ap is_blank (get_or-take m s k d below) ∙ fails_before_first is_blank s k d below) in
    let long : 0 < length t = omega (arith, length-take-le m s within) in
    elim (cases_lt m (length s)) [
      | inl lt ↦
          let rest = drop_more s m 0 lt in
          let whole = sym (take-append-drop m s) ∙ ap (λ r. t ++ r) rest in
          ap tokens whole ∙ tokens_more t (get_or s m 0) (drop (m + 1) s) long ink (passes_at_first is_blank s 0 lt)
          ∙ ap (λ r. t ∷ tokens r) (sym rest)
      | inr le ↦
          let whole : t ≡ s = take_all m s le in
          ap tokens (sym whole) ∙ tokens_one t long ink ∙ ap (λ r. t ∷ r) tokens_nil ∙ ap (λ r. t ∷ tokens r) (sym (drop_all m s le))
    ]

pub pair_none : (t : List ℕ) → position is_slash t ≡ None → pair_of t ≡ None
unfolding pair_of
pair_none t none = grind (arith, drop_all, position_none, entry_from_none)

pair_cut : (t : List ℕ) (i : ℕ) → position is_slash t ≡ Some i
    → pair_of t ≡ entry_from (part_of (take i t)) (part_of (drop (i + 1) t))
unfolding pair_of
pair_cut t i some = ap (λ n. entry_from (part_of (take n t)) (part_of (drop (n + 1) t))) (sym (position_some is_slash t i some).0)

pub pair_no_net : (t : List ℕ) (i : ℕ) → position is_slash t ≡ Some i → part_of (take i t) ≡ None → pair_of t ≡ None
pair_no_net t i some none = pair_cut t i some ∙ ap (λ o. entry_from o (part_of (drop (i + 1) t))) none

pub pair_no_node : (t : List ℕ) (i : ℕ) → position is_slash t ≡ Some i → part_of (take (length t - (i + 1)) (drop (i + 1) t)) ≡ None
    → pair_of t ≡ None
pair_no_node t i some none =
    pair_cut t i some
    ∙ ap (λ r. entry_from (part_of (take i t)) (part_of r)) (sym (take_rest t (i + 1)))
    ∙ ap (entry_from (part_of (take i t))) none ∙ entry_from_none _

pub pair_both : (t : List ℕ) (i net node : ℕ) → position is_slash t ≡ Some i → part_of (take i t) ≡ Some net
    → part_of (take (length t - (i + 1)) (drop (i + 1) t)) ≡ Some node → pair_of t ≡ Some (record { net = net; node = node })
pair_both t i net node some net-is node-is =
    pair_cut t i some
    ∙ ap (λ r. entry_from (part_of (take i t)) (part_of r)) (sym (take_rest t (i + 1)))
    ∙ ap (λ o. entry_from o (part_of (take (length t - (i + 1)) (drop (i + 1) t)))) net-is
    ∙ ap (entry_from (Some net)) node-is

digits_of_number : (most : ℕ) (t : List ℕ) (n : ℕ) → number_within most t ≡ Some n → all_ascii_digits t ≡ true
digits_of_number most t n some = grind (arith, cases_Bool, nat_le, and_parts, nat_lt, cond-false)

number_is_no_pair : (t : List ℕ) (n : ℕ) → part_of t ≡ Some n → pair_of t ≡ None
number_is_no_pair t n some =
    pair_of-hidden t (weaker IsDigit (λ b. is_slash b ≡ false) digit_is_no_slash t (each_digit t (own.to t (digits_of_number 65535 t n some))))

pub entry_alone : (net : Option ℕ) (t : List ℕ) (n : ℕ) → part_of t ≡ Some n → entry_from net (Some n) ≡ option_or (pair_of t) (entry_from net (part_of t))
entry_alone net t n some =
    sym (ap (λ p. option_or p (entry_from net (part_of t))) (number_is_no_pair t n some) ∙ ap (entry_from net) some)

or_none : (o : Option NetNode) → option_or o None ≡ o
or_none None = refl
or_none (Some e) = refl

pub entry_pair : (net : Option ℕ) (t : List ℕ) → part_of t ≡ None → pair_of t ≡ option_or (pair_of t) (entry_from net (part_of t))
entry_pair net t none =
    sym (ap (λ o. option_or (pair_of t) (entry_from net o)) none ∙ ap (option_or (pair_of t)) (entry_from_none net) ∙ or_none (pair_of t))

pub next_none : (s : List ℕ) → position is_other s ≡ None → tokens s ≡ []
next_none s none = grind (arith, drop_all, position_none, tokens_skip, tokens_nil)

pub next_some : (s begun front rest : List ℕ) (blank : Option ℕ) (start end : ℕ) → position is_other s ≡ Some start
    → begun ≡ take (length s - start) (drop start s) → blank ≡ position is_blank begun → end ≡ unwrap_or blank (length begun)
    → front ≡ take end begun → rest ≡ drop end begun → tokens s ≡ front ∷ tokens rest
next_some s begun front rest blank start end some begun-is blank-is end-is front-is rest-is =
    let found = position_some is_other s start some in
    let begins : begun ≡ drop start s = begun-is ∙ take_rest s start in
    let first : is_blank (get_or s start 0) ≡ false =
    not-true _ (ap (λ n. is_other (get_or s n 0)) found.0 ∙ passes_at_first is_other s 0 (omega (arith, found.0, found.1))) in
    let open' : begun ≡ get_or s start 0 ∷ drop (start + 1) s = begins ∙ drop_more s start 0 found.1 in
    let grows : position_or_len is_blank begun ≡ 1 + position_or_len is_blank (drop (start + 1) s) =
    ap (position_or_len is_blank) open' ∙ ap (λ t. cond (not t) (1 + position_or_len is_blank (drop (start + 1) s)) 0) first in
    let size : end ≡ position_or_len is_blank begun = end-is ∙ ap (λ o. unwrap_or o (length begun)) blank-is ∙ unwrap_or-position is_blank begun in
    let skip : tokens s ≡ tokens begun = tokens_skip s ∙ ap (λ n. tokens (drop n s)) (sym found.0) ∙ ap tokens (sym begins) in
    skip ∙ tokens_front begun (omega arith)
    ∙ ap (λ n. take n begun ∷ tokens (drop n begun)) (sym size)
    ∙ ap (λ f. f ∷ tokens (drop end begun)) (sym front-is) ∙ ap (λ r. front ∷ tokens r) (sym rest-is)

pub next_after : (s begun front rest : List ℕ) (blank : Option ℕ) (start end : ℕ) → position is_other s ≡ Some start
    → begun ≡ take (length s - start) (drop start s) → blank ≡ position is_blank begun → end ≡ unwrap_or blank (length begun)
    → front ≡ take end begun → rest ≡ drop end begun → rest ≡ drop (length front) (drop (position_or_len is_other s) s)
next_after s begun front rest blank start end some begun-is blank-is end-is front-is rest-is = grind (arith, unwrap_or-position, position_or_len-le, length-take-le, take_rest, position_some)
