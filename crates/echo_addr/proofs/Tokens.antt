use Rattle.std.proofs.Common.{◌≡◌, ℕ, ◌+◌, ◌<◌, nat_lt, not, cond, true, false, List, [], ◌∷◌, ◌++◌, length, take, refl, ap, ◌∙◌, arith}
use Rattle.std.proofs.{Math.Seq.drop-append-add, lemmas.List.append-nil, lemmas.List.take_at, lemmas.List.drop_all, lemmas.List.Elements.All-from_recursion}
use Rattle.std.proofs.lemmas.{List.Splits.slice_split_none, List.Splits.slice_split_at, Bool.lt-ltb, Bool.cond-true}
use Rattle.std.specs.List.{filter, slice_split, AllByRecursion, position_or_len, before_first, after_first}
use Rattle.echo_addr.specs.{Address.is_slash, Entries.is_blank, Entries.tokens}

abbrev pub IsInk : ℕ → Type 0
IsInk b = is_blank b ≡ false

abbrev pub IsEnded : List ℕ → Type 0
IsEnded [] = Unit {0}
IsEnded (b ∷ bs) = b ≡ 32

kept : (t : List ℕ) (ts : List (List ℕ)) → 0 < length t
    → filter (λ u. nat_lt 0 (length u)) (t ∷ ts) ≡ t ∷ filter (λ u. nat_lt 0 (length u)) ts
kept t ts some = cond-true (nat_lt 0 (length t)) _ _ (lt-ltb 0 (length t) some)

pub tokens_blank : (b : ℕ) (s : List ℕ) → is_blank b ≡ true → tokens (b ∷ s) ≡ tokens s
unfolding tokens
tokens_blank b s blank =
    ap (filter (λ u. nat_lt 0 (length u))) (cond-true (is_blank b) ([] ∷ slice_split is_blank s) _ blank)

pub tokens_one : (t : List ℕ) → 0 < length t → AllByRecursion IsInk t → tokens t ≡ t ∷ []
unfolding tokens
tokens_one t some ink =
    ap (filter (λ u. nat_lt 0 (length u))) (slice_split_none is_blank t (All-from_recursion IsInk t ink)) ∙ kept t [] some

pub tokens_more : (t : List ℕ) (b : ℕ) (s : List ℕ) → 0 < length t → AllByRecursion IsInk t → is_blank b ≡ true
    → tokens (t ++ b ∷ s) ≡ t ∷ tokens (b ∷ s)
unfolding tokens
tokens_more t b s some ink blank = grind (arith, nat_lt, slice_split_at, All-from_recursion, kept, tokens_blank)

pub tokens_nil : [] ≡ tokens []
unfolding tokens
tokens_nil = refl

pub tokens_cons : (t s : List ℕ) → 0 < length t → AllByRecursion IsInk t → IsEnded s → tokens (32 ∷ (t ++ s)) ≡ t ∷ tokens s
tokens_cons t s h1 h2 h3 = grind (arith, tokens_blank, append-nil, tokens_one, tokens_nil, tokens_more)

pub slash_at : (s r : List ℕ) → AllByRecursion (λ b. is_slash b ≡ false) s → position_or_len is_slash (s ++ 47 ∷ r) ≡ length s
slash_at [] r none = refl
slash_at (b ∷ s) r none =
    ap (λ t. cond (not t) (1 + position_or_len is_slash (s ++ 47 ∷ r)) 0) none.0 ∙ ap (λ n. 1 + n) (slash_at s r none.1) ∙ (omega arith)

pub no_slash : (s : List ℕ) → AllByRecursion (λ b. is_slash b ≡ false) s → position_or_len is_slash s ≡ length s
no_slash [] none = refl
no_slash (b ∷ s) none =
    ap (λ t. cond (not t) (1 + position_or_len is_slash s) 0) none.0 ∙ ap (λ n. 1 + n) (no_slash s none.1) ∙ (omega arith)

pub before_slash : (s r : List ℕ) → AllByRecursion (λ b. is_slash b ≡ false) s → before_first is_slash (s ++ 47 ∷ r) ≡ s
before_slash s r none = ap (λ n. take n (s ++ 47 ∷ r)) (slash_at s r none) ∙ take_at s (47 ∷ r) (length s) refl

pub after_slash : (s r : List ℕ) → AllByRecursion (λ b. is_slash b ≡ false) s → after_first is_slash (s ++ 47 ∷ r) ≡ r
after_slash s r none = grind (arith, slash_at, drop-append-add)

pub after_no_slash : (s : List ℕ) → AllByRecursion (λ b. is_slash b ≡ false) s → after_first is_slash s ≡ []
after_no_slash s none = drop_all _ s (omega (arith, no_slash s none))
