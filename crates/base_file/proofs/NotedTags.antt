-- A tag that is put among the tags.
use Rattle.std.proofs.Common.{◌≡◌, ◌∙◌, ◌⊎◌, ◌||◌, ◌++◌, ◌∷◌, [], Bool, List, ℕ, ap, false, inl, inr, map, refl, sym, true, arith}
use Rattle.std.proofs.lemmas.Map.Text.{is_eq-slice_cmp}
use Rattle.std.specs.{Prelude.bytes_eq, List.list_any, declared.cmp.Ordering.Ordering}
use Rattle.std.specs.declared.cmp.Ordering.TheVariants.{Less, Equal, Greater}
use Rattle.std.specs.{Ordering.is_eq, Ordering.match_ordering, Ordering.nat_cmp, BTreeSet.insert_key, Cmp.Lexicographic.bytes_decides, Cmp.Lexicographic.slice_cmp}
use Rattle.base_file.specs.Entries.{AreAmong}

either_passes : (b c : Bool) → (b || c) ≡ true → (b ≡ true) ⊎ (c ≡ true)
either_passes true c h = inl refl
either_passes false c h = inr h

passes_first : (b c : Bool) → b ≡ true → (b || c) ≡ true
passes_first b c h = ap (λ x. x || c) h

passes_later : (b c : Bool) → c ≡ true → (b || c) ≡ true
passes_later true c h = refl
passes_later false c h = h

inserted : {K : Type 0} (p : K → Bool) (order : K → K → Ordering) (ks : List K) (k : K)
    → list_any p (insert_key order ks k) ≡ true → (p k ≡ true) ⊎ (list_any p ks ≡ true)
inserted p order [] k h = either_passes (p k) false h
inserted p order (x ∷ xs) k h = by (order k x) h (inserted p order xs k)
  where
    further : (list_any p (insert_key order xs k) ≡ true → (p k ≡ true) ⊎ (list_any p xs ≡ true)) → (p x ≡ true) ⊎ (list_any p (insert_key order xs k) ≡ true)
        → (p k ≡ true) ⊎ (list_any p (x ∷ xs) ≡ true)
    further later (inl e) = inr (passes_first (p x) (list_any p xs) e)
    further later (inr e) = elim (later e) [ inl g ↦ inl g | inr g ↦ inr (passes_later (p x) (list_any p xs) g) ]

    by : (o : Ordering) → list_any p (match_ordering o (k ∷ x ∷ xs) (x ∷ xs) (x ∷ insert_key order xs k)) ≡ true
        → (list_any p (insert_key order xs k) ≡ true → (p k ≡ true) ⊎ (list_any p xs ≡ true)) → (p k ≡ true) ⊎ (list_any p (x ∷ xs) ≡ true)
    by Less h later = either_passes (p k) (list_any p (x ∷ xs)) h
    by Equal h later = inr h
    by Greater h later = further later (either_passes (p x) (list_any p (insert_key order xs k)) h)

module _ {K : Type 0} (tag_of : K → List ℕ) where
  pub last_found : (tags : List K) (k : K) (tag : List ℕ) → tag ≡ tag_of k → list_any (bytes_eq tag) (map tag_of (tags ++ k ∷ [])) ≡ true
  last_found [] k tag e = passes_first (bytes_eq tag (tag_of k)) false ((bytes_decides tag (tag_of k)).1 e)
  last_found (t ∷ tags) k tag e = passes_later (bytes_eq tag (tag_of t)) _ (last_found tags k tag e)

  pub still_found : (tags : List K) (k : K) (tag : List ℕ) → list_any (bytes_eq tag) (map tag_of tags) ≡ true → list_any (bytes_eq tag) (map tag_of (tags ++ k ∷ [])) ≡ true
  still_found [] k tag h = grind (arith, either_passes, passes_first)
  still_found (t ∷ tags) k tag h = elim (either_passes (bytes_eq tag (tag_of t)) (list_any (bytes_eq tag) (map tag_of tags)) h) [
    | inl e ↦ passes_first (bytes_eq tag (tag_of t)) _ e
    | inr e ↦ passes_later (bytes_eq tag (tag_of t)) _ (still_found tags k tag e)
  ]

  pub tag_noted : (sorted tags : List K) (k l : K) → tag_of l ≡ tag_of k → AreAmong tag_of sorted tags
      → AreAmong tag_of (insert_key (λ x y. slice_cmp nat_cmp (tag_of x) (tag_of y)) sorted l) (tags ++ k ∷ [])
  tag_noted sorted tags k l own h tag found =
      elim (inserted (λ x. is_eq (slice_cmp nat_cmp tag (tag_of x))) (λ x y. slice_cmp nat_cmp (tag_of x) (tag_of y)) sorted l found) [
        | inl e ↦ last_found tags k tag ((bytes_decides tag (tag_of l)).0 (sym (is_eq-slice_cmp tag (tag_of l)) ∙ e) ∙ own)
        | inr e ↦ still_found tags k tag (h tag e)
      ]
