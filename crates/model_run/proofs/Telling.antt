-- A plain SEEN-BY keeps the rule.
use Rattle.std.proofs.Common.{◌≡◌, ◌≢◌, ◌⊎◌, inl, inr, refl, sym, ◌∙◌, IsTrue, List, [], ◌∷◌, subst, arith}
use Rattle.model_graph.specs.Beyond.{Beyond}
use Rattle.model_run.specs.{Nets.Net, Nets.Joined, Events.Filed, Rules.HasSeenBy, Rules.HasPlainSeenBy}

module _ {A N K C : Type 0} (net : Net A N) (joined : Joined net) (m : Filed A N K C) (to : List A) (x : A) (seen : List N)
    (link : IsTrue (net.linked m.at x)) (plain : HasPlainSeenBy net m to seen) where
  differ : x ≢ m.at
  differ e = let P : A → Type 0 = λ a. IsTrue (net.linked m.at a) in joined.no_self m.at (subst P e link)

  not-behind : (d : A) → Beyond net.linked x m.at d → d ≢ x → (l : A) → d ≡ l → (l ≡ m.at) ⊎ IsTrue (net.linked m.at l) → ⊥
  not-behind d beyond other l same near =
      let P : A → Type 0 = λ a. Beyond net.linked x m.at a in
      let at_l : P l = subst P same beyond in
      elim near [
        | inl own ↦ elim (at_l [] own) [ inl e ↦ differ (e ∙ own) | inr none ↦ none ]
        | inr near_by ↦ elim (at_l (m.at ∷ []) (joined.both m.at l near_by, refl)) [
          | inl e ↦ other (same ∙ sym e)
          | inr t ↦ elim t [ inl e ↦ differ e | inr none ↦ none ]
        ]
      ]

  pub reported-plainly : HasSeenBy net m to x seen
  reported-plainly = grind (arith, not-behind, carries)
    where
      carries : (l : A) → (l ≡ m.at) ⊎ IsTrue (net.linked m.at l) → IsTrue (net.carries l)
      carries l near = grind arith
