-- A cycle written from another member, or the other way round.
use Rattle.std.proofs.Common.{◌≡◌, inl, inr, refl, sym, subst, arith, Bool, IsTrue, List, [], ◌∷◌, ◌++◌, length, reverse, append_assoc, append-nil, length-append}
use Rattle.std.proofs.lemmas.List.{reverse-append}
use Rattle.model_graph.specs.{Walk.Simple, Walk.Among, Walk.Different, Walk.Walk, Cycle.Cycle, Cycle.IsCycle}
use Rattle.model_graph.proofs.{Members.Among-append_cases, Members.Different-push, Members.link_to, Members.walk_append, Cycles.cycle_turned}

pub reverse-cons : {A : Type 0} (x : A) (xs : List A) → reverse (x ∷ xs) ≡ reverse xs ++ x ∷ []
reverse-cons x xs = reverse-append (x ∷ []) xs

length-reversed : {A : Type 0} (xs : List A) → length (reverse xs) ≡ length xs
length-reversed [] = refl
length-reversed (x ∷ xs) = rw (reverse-cons x xs) (omega (arith, length-append (reverse xs) (x ∷ []), length-reversed xs))

pub Among-from_reverse : {A : Type 0} (x : A) (xs : List A) → Among x (reverse xs) → Among x xs
Among-from_reverse x [] h = h
Among-from_reverse {A} x (y ∷ ys) h =
    let P : List A → Type 0 = λ zs. Among x zs in
    elim (Among-append_cases x (reverse ys) (y ∷ []) (subst P (reverse-cons y ys) h)) [
      | inl l ↦ inr (Among-from_reverse x ys l)
      | inr r ↦ elim r [ inl e ↦ inl e | inr n ↦ absurd n ]
    ]

pub Different-reverse : {A : Type 0} (xs : List A) → Different xs → Different (reverse xs)
Different-reverse [] h = h
Different-reverse {A} (x ∷ xs) h =
    let P : List A → Type 0 = λ zs. Different zs in
    let pushed = Different-push (reverse xs) x (Different-reverse xs h.1) (λ t. h.0 (Among-from_reverse x xs t)) in
    subst P (sym (reverse-cons x xs)) pushed

module _ {A : Type 0} (linked : A → A → Bool) where
  pub IsCycle-turned : (first : A) (rest : List A) → IsCycle linked (first ∷ rest) → IsCycle linked (rest ++ first ∷ [])
  IsCycle-turned first [] cycle = absurd (omega (arith, cycle.long))
  IsCycle-turned first (second ∷ rest) cycle = cycle_turned linked first second rest cycle

  pub IsCycle-rotated : (front back : List A) → IsCycle linked (front ++ back) → IsCycle linked (back ++ front)
  IsCycle-rotated [] back cycle = let P : List A → Type 0 = λ xs. IsCycle linked xs in subst P (sym (append-nil back)) cycle
  IsCycle-rotated (first ∷ front) back cycle =
      let P : List A → Type 0 = λ xs. IsCycle linked xs in
      let turned = subst P (append_assoc front back (first ∷ [])) (IsCycle-turned first (front ++ back) cycle) in
      subst P (append_assoc back (first ∷ []) front) (IsCycle-rotated front (back ++ first ∷ []) turned)

  module _ (simple : Simple linked) where
    walk_reversed : (first s : A) (rest : List A) (l : A) → IsTrue (linked first l) → Walk linked s rest l → Walk linked first (reverse (s ∷ rest)) s
    walk_reversed first s [] l link w = (link_to linked first l s (sym w) link, refl)
    walk_reversed first s (t ∷ rest) l link w =
        let P : List A → Type 0 = λ zs. Walk linked first zs s in
        let to_t = walk_reversed first t rest l link w.1 in
        let on = walk_append linked first (reverse (t ∷ rest)) t (s ∷ []) s to_t (simple.both_ways s t w.0, refl) in
        subst P (sym (reverse-cons s (t ∷ rest))) on

    pub Cycle-reversed : (first : A) (rest : List A) → Cycle linked first rest → Cycle linked first (reverse rest)
    Cycle-reversed first [] cycle = cycle
    Cycle-reversed first (second ∷ rest) cycle =
        let (last, w, closes) = cycle.closed in
        record {
          long = omega (arith, cycle.long, length-reversed (second ∷ rest));
          different = (
            λ h. cycle.different.0 (Among-from_reverse first (second ∷ rest) h),
            Different-reverse (second ∷ rest) cycle.different.1,
          );
          closed = grind (arith, walk_reversed);
        }
