-- Escaped bytes are read back. So the words that are accepted as ids are those of ids, and each id has a word of its own.
use Rattle.std.proofs.Common.{◌≡◌, ℕ, zero, suc, ◌+◌, ◌<◌, Bool, true, false, Option, Some, None, List, [], ◌∷◌, ◌++◌, length, drop, get_or, inl, inr, refl, sym, ap, subst, ◌∙◌, append_assoc, arith}
use Rattle.std.{proofs.lemmas.{Bool.{cases_Bool, true≢false}, List.drop_more}, specs.Prelude.{◌==◌, ◌&&◌, nat_lt, bytes_eq}}
use Rattle.{std.specs.{Cmp.Lexicographic.bytes_decides, List.{AllByRecursion, cons_option, fold, list_all}}, echo_charset.specs.Escaped.{escaped, escaped_byte}}
use Rattle.cmd_repair.specs.Ids.{IsId, IsWordOfId, ended_byte, is_id, is_id_word, is_text_byte, next_escape, unescaped}
use Rattle.cmd_repair.specs.declared.words.Escape.{Escape, TheVariants.{Outside, Backslash, Prefix, Digit}}

pub both : (a b : Bool) → (a && b) ≡ true → (a ≡ true) × (b ≡ true)
both a b h = grind arith

abbrev pub every : (ℕ → Bool) → ℕ → Bool
every p zero = true
every p (suc n) = p n && every p n

pub every-each : (p : ℕ → Bool) (n : ℕ) → every p n ≡ true → (k : ℕ) → k < n → p k ≡ true
every-each p zero all k less = absurd (omega (arith, less))
every-each p (suc n) all k less =
    let parts = both (p n) (every p n) all in
    elim (cases_Bool (k == n)) [
      | inl same ↦ (let is : k ≡ n = grind arith in ap p is ∙ parts.0)
      | inr other ↦ every-each p n parts.1 k (let not_same : k ≡ n → ⊥ = grind arith in omega (arith, less, not_same))
    ]

cons_append : (o : Option ℕ) (xs ys : List ℕ) → cons_option o (xs ++ ys) ≡ cons_option o xs ++ ys
cons_append None xs ys = refl
cons_append (Some x) xs ys = refl

unescaped-append : (s : Escape) (xs ys : List ℕ) → unescaped s (xs ++ ys) ≡ unescaped s xs ++ unescaped (fold next_escape s xs) ys
unescaped-append s [] ys = refl
unescaped-append s (x ∷ xs) ys =
    ap (cons_option (ended_byte s x)) (unescaped-append (next_escape s x) xs ys)
    ∙ cons_append (ended_byte s x) (unescaped (next_escape s x) xs) (unescaped (fold next_escape (next_escape s x) xs) ys)

abbrev is_outside : Escape → Bool
is_outside Outside = true
is_outside Backslash = false
is_outside Prefix = false
is_outside (Digit d) = false

outside : (s : Escape) → is_outside s ≡ true → s ≡ Outside
outside Outside is = refl
outside Backslash is = absurd (true≢false (sym is))
outside Prefix is = absurd (true≢false (sym is))
outside (Digit d) is = absurd (true≢false (sym is))

abbrev is_read_back : ℕ → Bool
is_read_back b = bytes_eq (unescaped Outside (escaped_byte b)) (b ∷ []) && is_outside (fold next_escape Outside (escaped_byte b))

all_read_back : every is_read_back 256 ≡ true
all_read_back = refl

byte-back : (b : ℕ) (word : List ℕ) → b < 256 → unescaped Outside (escaped_byte b ++ word) ≡ b ∷ unescaped Outside word
byte-back b word small =
    let parts = both (bytes_eq (unescaped Outside (escaped_byte b)) (b ∷ [])) (is_outside (fold next_escape Outside (escaped_byte b))) (every-each is_read_back 256 all_read_back b small) in
    unescaped-append Outside (escaped_byte b) word
    ∙ ap (λ (l : List ℕ). l ++ unescaped (fold next_escape Outside (escaped_byte b)) word) ((bytes_decides (unescaped Outside (escaped_byte b)) (b ∷ [])).0 parts.0)
    ∙ ap (λ (s : Escape). b ∷ unescaped s word) (outside (fold next_escape Outside (escaped_byte b)) parts.1)

abbrev pub AreSmall : List ℕ → Type 0
AreSmall bytes = AllByRecursion (λ (b : ℕ). b < 256) bytes

id-back : (id : List ℕ) → AreSmall id → unescaped Outside (escaped id) ≡ id
id-back [] small = refl
id-back (b ∷ id) small = byte-back b (escaped id) small.0 ∙ ap (λ (l : List ℕ). b ∷ l) (id-back id small.1)

pub one-form : (a b : List ℕ) → AreSmall a → AreSmall b → escaped a ≡ escaped b → a ≡ b
one-form a b small_a small_b same = sym (id-back a small_a) ∙ ap (unescaped Outside) same ∙ id-back b small_b

pub same-test : (a b : List ℕ) → AreSmall a → AreSmall b → bytes_eq (escaped a) (escaped b) ≡ bytes_eq a b
same-test a b small_a small_b = elim (cases_Bool (bytes_eq a b)) [
  | inl same ↦ (bytes_decides (escaped a) (escaped b)).1 (ap escaped ((bytes_decides a b).0 same)) ∙ sym same
  | inr other ↦ elim (cases_Bool (bytes_eq (escaped a) (escaped b))) [
    | inl alike ↦ (let is = (bytes_decides a b).1 (one-form a b small_a small_b ((bytes_decides (escaped a) (escaped b)).0 alike)) in absurd (true≢false (sym is ∙ other)))
    | inr differ ↦ differ ∙ sym other
  ]
]

pub read-on : (word id more : List ℕ) (k : ℕ) (s : Escape) (b : ℕ) → k < length word → b ≡ get_or word k 0 → id ++ unescaped s (drop k word) ≡ unescaped Outside word → more ≡ id ++ cons_option (ended_byte s b) []
    → more ++ unescaped (next_escape s b) (drop (k + 1) word) ≡ unescaped Outside word
read-on word id more k s b within here so_far grown =
    let rest = unescaped (next_escape s b) (drop (k + 1) word) in
    ap (λ (l : List ℕ). l ++ rest) grown ∙ append_assoc id (cons_option (ended_byte s b) []) rest
    ∙ ap (λ (l : List ℕ). id ++ l) (sym (cons_append (ended_byte s b) [] rest))
    ∙ ap (λ (x : ℕ). id ++ cons_option (ended_byte s x) (unescaped (next_escape s x) (drop (k + 1) word))) here
    ∙ ap (λ (l : List ℕ). id ++ unescaped s l) (sym (drop_more word k 0 within)) ∙ so_far

small_byte : (b : ℕ) → is_text_byte b ≡ true → b < 256
small_byte b h = grind arith

text-small : (id : List ℕ) → list_all is_text_byte id ≡ true → AreSmall id
text-small [] all = tt
text-small (b ∷ id) all =
    let parts = both (is_text_byte b) (list_all is_text_byte id) all in
    (small_byte b parts.0, text-small id parts.1)

pub id-small : (id : List ℕ) → IsId id → AreSmall id
id-small id is = text-small id (both (list_all is_text_byte id) _ (both (nat_lt 0 (length id)) _ is).1).0

-- ---- the words of ids

pub given : (word : List ℕ) → is_id_word word ≡ true → IsWordOfId word
given word h =
    let parts = both (is_id (unescaped Outside word)) (bytes_eq (escaped (unescaped Outside word)) word) h in
    record { id = unescaped Outside word; is_id = parts.0; printed = sym ((bytes_decides (escaped (unescaped Outside word)) word).0 parts.1) }

pub passes : (a b : Bool) → a ≡ true → b ≡ true → (a && b) ≡ true
passes a b is_a is_b = grind arith

pub taken : (id : List ℕ) → IsId id → is_id_word (escaped id) ≡ true
taken id is =
    subst (λ (l : List ℕ). (is_id l && bytes_eq (escaped l) (escaped id)) ≡ true) (sym (id-back id (id-small id is)))
    (passes (is_id id) (bytes_eq (escaped id) (escaped id)) is ((bytes_decides (escaped id) (escaped id)).1 refl))

pub printed_taken : (word : List ℕ) → IsWordOfId word → is_id_word word ≡ true
printed_taken word is = ap is_id_word is.printed ∙ taken is.id is.is_id
