-- What is left of link files.
use Rattle.std.proofs.Common.{◌≡◌, ℕ, zero, suc, ◌+◌, ◌<◌, ◌==◌, Bool, true, false, ◌||◌, List, [], ◌∷◌, length, take, get_or, Some, refl, sym, ap, ◌∙◌, arith, inl, inr}
use Rattle.std.{proofs.lemmas.{Bool.ne_eqb, List.Folds.list_any_more, Option.slice_get_cases}, specs.{Prelude.slice_get, List.list_any}}
use Rattle.{echo_addr.specs.declared.address.Address.Address, echo_links.specs.Links.LinkFile, cmd_suppose.specs.Leaving.{AreLeft, texts_left}}
use Rattle.cmd_status.specs.Inputs.{AreLinkFiles}

-- an item passes at this index
pub any_here : {X : Type 0} (p : X → Bool) (xs : List X) (k : ℕ) (r : Bool) → k < length xs → ((x : X) → slice_get xs k ≡ Some x → r ≡ p x) → r ≡ true
    → list_any p xs ≡ true
any_here p [] k r inside is passes = absurd (omega (arith, inside))
any_here p (x ∷ xs) zero r inside is passes = ap (λ b. b || list_any p xs) (sym (is x refl) ∙ passes)
any_here p (x ∷ xs) (suc k) r inside is passes =
    either_later (p x) (list_any p xs) (any_here p xs k r (omega (arith, inside)) is passes)
  where
    either_later : (a b : Bool) → b ≡ true → (a || b) ≡ true
    either_later true b h = refl
    either_later false b h = h

-- none passes so far
pub none_here : {X : Type 0} (p : X → Bool) (xs : List X) (k : ℕ) (r : Bool) → k < length xs → ((x : X) → slice_get xs k ≡ Some x → r ≡ p x) → r ≡ false
    → list_any p (take k xs) ≡ false → list_any p (take (k + 1) xs) ≡ false
none_here p xs k r inside is fails before = elim (slice_get_cases xs k).1 [
  | inl (x, below, got, read) ↦
      list_any_more p xs k x inside ∙ ap (λ b. b || p (get_or xs k x)) before ∙ ap p read ∙ sym (is x got) ∙ fails
  | inr past ↦ absurd (let less = past.0 in omega (arith, less, inside))
]

-- whether a list is empty
pub empty_none : (n : ℕ) (b : Bool) → b ≡ (n == 0) → b ≡ true → n ≡ 0
empty_none zero b is passes = refl
empty_none (suc n) b is passes = let other = ne_eqb (suc n) 0 (λ e. absurd (omega (arith, e))) in cc

pub full_some : (n : ℕ) (b : Bool) → b ≡ (n == 0) → b ≡ false → n ≡ 0 → ⊥
full_some n b is fails none = let same : (n == 0) ≡ true = ap (λ m. m == 0) none in cc

-- what is left if no system is left out, and else
pub all_left : (out : List Address) (whole : List LinkFile) → length out ≡ 0 → AreLeft out whole whole
all_left [] whole none = refl
all_left (a ∷ out) whole none = absurd (omega (arith, none))

pub some_left : (out : List Address) (whole left : List LinkFile) → (length out ≡ 0 → ⊥) → AreLinkFiles (texts_left out whole) left → AreLeft out whole left
some_left [] whole left some are = absurd (some refl)
some_left (a ∷ out) whole left some are = are
