-- A walk around a member stays on one side of it: links of b that a walk joins around b are in one block at b.
use Rattle.std.proofs.{Common.{◌≡◌, ◌≢◌, ◌<◌, ◌≤◌, ℕ, zero, suc, Bool, IsTrue, [], ◌∷◌, refl, sym, ◌∙◌, subst, arith, inl, inr}, lemmas.Bool.cases_eq}
use Rattle.model_graph.specs.{Blocks.{AreBlocks, AreFull, OnOneSide, IsInFull, IsCovered}, Walk.{Among, Simple}, Beyond.Around, Pinches.IsPinch}
use Rattle.model_graph.proofs.Members.{linked_differ, Around-keeps, Around-sym}

-- x hangs below b in block k: the n-th member up from x is in k, its top is b, and no member on the way is b
abbrev pub Hangs : (ℕ → ℕ) → (ℕ → ℕ) → ℕ → ℕ → ℕ → ℕ → Type 0
Hangs block top b k zero x = (x ≢ b) × (block x ≡ k) × (top x ≡ b)
Hangs block top b k (suc n) x = (x ≢ b) × Hangs block top b k n (top x)

module _ (links : ℕ → ℕ → Bool) (simple : Simple links) (members : ℕ) (within : (a b : ℕ) → IsTrue (links a b) → b < members)
    (block top rank : ℕ → ℕ) (are : AreBlocks links members block top rank) where
  not_b : (b k n x : ℕ) → Hangs block top b k n x → x ≢ b
  not_b b k n x h1 = grind arith

  hangs_next : (b k n x y : ℕ) → Hangs block top b k n x → IsTrue (links x y) → b ≢ y → (m : ℕ) × Hangs block top b k m y
  hangs_next b k zero x y h link apart =
      elim (are.links x y link) [
        | inl same ↦ (0, ((λ e. apart (sym e)), sym same.0 ∙ h.1, sym same.1 ∙ h.2))
        | inr other ↦
            elim other [
              | inl up ↦ absurd (apart (sym h.2 ∙ up))
              | inr down ↦ (1, ((λ e. apart (sym e)), subst (Hangs block top b k 0) (sym down) h))
            ]
      ]
  hangs_next b k (suc n) x y h link apart =
      elim (are.links x y link) [
        | inl same ↦ (suc n, ((λ e. apart (sym e)), subst (Hangs block top b k n) same.1 h.1))
        | inr other ↦
            elim other [
              | inl up ↦ (n, subst (Hangs block top b k n) up h.1)
              | inr down ↦ (suc (suc n), ((λ e. apart (sym e)), subst (Hangs block top b k (suc n)) (sym down) h))
            ]
      ]

  hangs_after : (b k n x : ℕ) → x < members → Hangs block top b k n x → rank b ≤ rank x
  hangs_after b k zero x inside h = grind arith
  hangs_after b k (suc n) x inside h = grind (arith, hangs_after b k n (top x) (are.ranks x inside).0 h.1)

  hangs_by_itself : (b k n c : ℕ) → b < members → IsTrue (links b c) → Hangs block top b k n c → (block c ≡ k) × (top c ≡ b)
  hangs_by_itself b k zero c inside link h = (h.1, h.2)
  hangs_by_itself b k (suc n) c inside link h =
      let apart : top c ≢ b = not_b b k n (top c) h.1 in
      grind (arith, hangs_after)

  -- if a walk around b joins links a and c of b, and a is in a block below b, so is c
  joined_below : (b a c : ℕ) → IsTrue (links b a) → IsTrue (links b c) → Around links b a c → top a ≡ b → (block c ≡ block a) × (top c ≡ b)
  joined_below b a c link_a link_c around below =
      let apart : a ≢ b = λ e. linked_differ links simple b a link_a (sym e) in
      let inside : b < members = within a b (simple.both_ways b a link_a) in
      let Under : ℕ → Type 0 = λ x. (n : ℕ) × Hangs block top b (block a) n x in
      let found : Under c = Around-keeps links b Under (λ x y h link _ other. hangs_next b (block a) h.0 x y h.1 link other) a c around (0, (apart, refl, below)) in
      hangs_by_itself b (block a) found.0 c inside link_c found.1

  pub one_side : (b a c : ℕ) → IsTrue (links b a) → IsTrue (links b c) → Around links b a c → OnOneSide block top b a c
  one_side b a c link_a link_c around = grind (arith, cases_eq, joined_below, Around-sym)

  side_trans : (b r a c : ℕ) → OnOneSide block top b r a → OnOneSide block top b a c → OnOneSide block top b r c
  side_trans b r a c first second = grind arith

  -- if r covers the links of b on one side, a pinch of b on that side is a pinch of r
  pub no_pinch_covered : (b r a c : ℕ) → r < b → ((d f : ℕ) → ¬ IsPinch links r d f) → IsCovered links block top b r → OnOneSide block top b r a → ¬ IsPinch links b a c
  no_pinch_covered b r a c before none covered side_a pinch =
      let lt = pinch.in_order in
      let side_c = side_trans b r a c side_a (one_side b a c pinch.one pinch.other pinch.around) in
      elim (cases_eq a r) [
        | inl same ↦ grind arith
        | inr apart_a ↦
            elim (cases_eq c r) [
              | inl same ↦ pinch.not_linked (simple.both_ways c a (subst (λ x. IsTrue (links x a)) (sym same) (covered a pinch.one side_a apart_a)))
              | inr apart_c ↦
                  none a c
                  (record {
                    one = covered a pinch.one side_a apart_a;
                    other = covered c pinch.other side_c apart_c;
                    in_order = lt;
                    not_linked = pinch.not_linked;
                    around = (b ∷ c ∷ [], (simple.both_ways b a pinch.one, (pinch.other, refl)), not_passed r a b c (λ e. apart_a (sym e)) (λ e. absurd (omega arith)) (λ e. apart_c (sym e)));
                  })
            ]
      ]
    where
      not_passed : (r a b c : ℕ) → r ≢ a → r ≢ b → r ≢ c → ¬ Among r (a ∷ b ∷ c ∷ [])
      not_passed r a b c apart_a apart_b apart_c (inl e) = apart_a e
      not_passed r a b c apart_a apart_b apart_c (inr (inl e)) = apart_b e
      not_passed r a b c apart_a apart_b apart_c (inr (inr (inl e))) = apart_c e
      not_passed r a b c apart_a apart_b apart_c (inr (inr (inr none))) = none

  pub no_pinch_in_full : (full : ℕ → Bool) → AreFull links members block top full → (b a c : ℕ) → IsInFull block top full b a → ¬ IsPinch links b a c
  no_pinch_in_full full fully b a c in_full pinch =
      let lt = pinch.in_order in
      let differ : a ≢ c = λ e. absurd (omega arith) in
      let at_a = within b a pinch.one in
      let at_c = within b c pinch.other in
      let side = one_side b a c pinch.one pinch.other pinch.around in
      pinch.not_linked
      (elim in_full [
        | inl below ↦ grind arith
        | inr above ↦
            elim side [
              | inl together ↦ absurd (above.0 together.0)
              | inr both ↦ linked_above full fully b a c above.1 pinch.one pinch.other differ both.0 both.1
            ]
      ])
    where
      linked_above : (full : ℕ → Bool) → AreFull links members block top full → (b a c : ℕ) → IsTrue (full (block b)) → IsTrue (links b a) → IsTrue (links b c) → a ≢ c → top a ≢ b → top c ≢ b → IsTrue (links a c)
      linked_above full fully b a c known link_a link_c differ up_a up_c = grind arith
