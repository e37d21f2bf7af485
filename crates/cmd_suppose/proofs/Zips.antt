-- Two lists whose items belong together, and the items of a list that pass.
use Rattle.std.proofs.Common.{◌≡◌, Bool, true, false, cond, filter, append-nil, ℕ, zero, suc, ◌+◌, ◌<◌, List, [], ◌∷◌, ◌++◌, length, take, get_or, refl, sym, ap, subst, ◌∙◌, inl, inr, arith}
use Rattle.{std.{proofs.lemmas.List.{take_more, Elements.filter-append}, specs.List.AllZip}, model_graph.specs.Walk.Among}

module _ {X Y : Type 0} (R : X → Y → Type 0) where
  zip_then : (xs : List X) (ys : List Y) (x : X) (y : Y) → AllZip R xs ys → R x y → AllZip R (xs ++ x ∷ []) (ys ++ y ∷ [])
  zip_then [] [] x y are is = (is, tt)
  zip_then [] (u ∷ ys) x y are is = absurd are
  zip_then (z ∷ xs) [] x y are is = absurd are
  zip_then (z ∷ xs) (u ∷ ys) x y are is = (are.0, zip_then xs ys x y are.1 is)

  -- one more pair
  pub zip_next : (xs : List X) (k : ℕ) (x : X) (ys : List Y) (y : Y) → k < length xs → x ≡ get_or xs k x → AllZip R (take k xs) ys → R x y
      → AllZip R (take (k + 1) xs) (ys ++ y ∷ [])
  zip_next xs k x ys y inside is are one =
      subst (λ (t : List X). AllZip R t (ys ++ y ∷ [])) (sym (take_more xs k x inside ∙ ap (λ z. take k xs ++ z ∷ []) (sym is)))
      (zip_then (take k xs) ys x y are one)

  pub zip_length : (xs : List X) (ys : List Y) → AllZip R xs ys → length ys ≡ length xs
  zip_length [] [] are = refl
  zip_length [] (u ∷ ys) are = absurd are
  zip_length (z ∷ xs) [] are = absurd are
  zip_length (z ∷ xs) (u ∷ ys) are = let e = zip_length xs ys are.1 in omega (arith, e)

  -- the items at one index
  zip_at : (xs : List X) (ys : List Y) (k : ℕ) (d : X) (e : Y) → AllZip R xs ys → k < length xs → R (get_or xs k d) (get_or ys k e)
  zip_at [] ys k d e are inside = absurd (omega (arith, inside))
  zip_at (z ∷ xs) [] k d e are inside = absurd are
  zip_at (z ∷ xs) (u ∷ ys) zero d e are inside = are.0
  zip_at (z ∷ xs) (u ∷ ys) (suc k) d e are inside = zip_at xs ys k d e are.1 (omega (arith, inside))

  pub zip_read : (xs : List X) (ys : List Y) (k : ℕ) (x z : X) (y : Y) → AllZip R xs ys → k < length xs → x ≡ get_or xs k x → z ≡ x → y ≡ get_or ys k y → R z y
  zip_read xs ys k x z y are inside x-is z-is y-is =
      subst (λ (u : X). R u y) (sym (z-is ∙ x-is)) (subst (λ (v : Y). R (get_or xs k x) v) (sym y-is) (zip_at xs ys k x y are inside))

  -- an item of the one list belongs to one of the other
  pub zip_from : (y : Y) (xs : List X) (ys : List Y) → Among y ys → AllZip R xs ys → (x : X) × Among x xs × R x y
  zip_from y [] [] there are = absurd there
  zip_from y [] (u ∷ ys) there are = absurd are
  zip_from y (z ∷ xs) [] there are = absurd are
  zip_from y (z ∷ xs) (u ∷ ys) there are = elim there [
    | inl e ↦ (z, inl refl, subst (λ (w : Y). R z w) (sym e) are.0)
    | inr later ↦ (let (x, among, is) = zip_from y xs ys later are.1 in (x, inr among, is))
  ]

  pub zip_to : (x : X) (xs : List X) (ys : List Y) → Among x xs → AllZip R xs ys → (y : Y) × Among y ys × R x y
  zip_to x [] [] there are = absurd there
  zip_to x [] (u ∷ ys) there are = absurd are
  zip_to x (z ∷ xs) [] there are = absurd are
  zip_to x (z ∷ xs) (u ∷ ys) there are = elim there [
    | inl e ↦ (u, inl refl, subst (λ (w : X). R w u) (sym e) are.0)
    | inr later ↦ (let (y, among, is) = zip_to x xs ys later are.1 in (y, inr among, is))
  ]

module _ {X : Type 0} (p : X → Bool) where
  -- one more item that passes, and one that does not
  pub kept_one : (x : X) (old new : List X) → p x ≡ true → new ≡ old ++ x ∷ [] → new ≡ old ++ filter p (x ∷ [])
  kept_one x old new passes pushed = pushed ∙ ap (λ l. old ++ l) (sym (ap (λ b. cond b (x ∷ []) []) passes))

  pub lost_one : (x : X) (old : List X) → p x ≡ false → old ≡ old ++ filter p (x ∷ [])
  lost_one x old fails = sym (append-nil old) ∙ ap (λ l. old ++ l) (sym (ap (λ b. cond b (x ∷ []) []) fails))

  pub kept_next : (xs : List X) (k : ℕ) (x : X) (old new : List X) → k < length xs → x ≡ get_or xs k x → old ≡ filter p (take k xs) → new ≡ old ++ filter p (x ∷ [])
      → new ≡ filter p (take (k + 1) xs)
  kept_next xs k x old new inside is before pushed =
      pushed ∙ ap (λ l. l ++ filter p (x ∷ [])) before ∙ sym (filter-append p (take k xs) (x ∷ []))
      ∙ ap (filter p) (ap (λ z. take k xs ++ z ∷ []) is ∙ sym (take_more xs k x inside))
