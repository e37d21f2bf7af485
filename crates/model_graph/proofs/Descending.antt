-- A walk down the levels of a search is the first of the walks to its root.
use Rattle.std.proofs.Common.{◌≡◌, ◌≢◌, ◌<◌, ◌≤◌, ◌++◌, ℕ, suc, Bool, IsTrue, Option, Some, List, [], ◌∷◌, length, get_or, refl, sym, ap, ◌∙◌, subst, arith, inl, inr}
use Rattle.std.proofs.lemmas.Bool.{cases_eq, cases_lt}
use Rattle.model_graph.specs.{Walk.Among, Walk.Different, Walk.Walk, Walk.Simple, Rows.links_at, Rows.linked, Rows.IsGraph, Levels.level_of, Floods.Searched, Descents.SmallestAt, Descents.Descent}
use Rattle.model_graph.{specs.Loops.{NoLater, FirstWalk}, proofs.{Floods.one_level, PinchSearch.{row_link, row_place, row_rises}}}

pub Descent-push : (links : ℕ → ℕ → Bool) (levels : List (Option ℕ)) (rest : List ℕ) (a z d m : ℕ) → Descent links levels a rest z → level_of levels z ≡ Some (suc m) → SmallestAt links levels z m d → Descent links levels a (rest ++ d ∷ []) d
Descent-push links levels [] a z d m same e s =
    subst (λ x. ((level : ℕ) × (level_of levels x ≡ Some (suc level)) × SmallestAt links levels x level d) × (d ≡ d)) (sym same) ((m, e, s), refl)
Descent-push links levels (c ∷ rest) a z d m h e s = (h.0, Descent-push links levels rest c z d m h.1 e s)

pub lower_exists : (links : ℕ → ℕ → Bool) (without root : ℕ) (levels : List (Option ℕ)) → Simple links → Searched links without root levels → (z m : ℕ) → level_of levels z ≡ Some (suc m) → (d : ℕ) × IsTrue (links z d) × (level_of levels d ≡ Some m)
lower_exists links without root levels simple searched z m e = grind arith

Walk-from_Descent : (links : ℕ → ℕ → Bool) (levels : List (Option ℕ)) (rest : List ℕ) (a z : ℕ) → Descent links levels a rest z → Walk links a rest z
Walk-from_Descent links levels [] a z same = same
Walk-from_Descent links levels (d ∷ rest) a z h = (h.0.2.link, Walk-from_Descent links levels rest d z h.1)

level_in : (links : ℕ → ℕ → Bool) (levels : List (Option ℕ)) (rest : List ℕ) (a z m x : ℕ) → Descent links levels a rest z → level_of levels a ≡ Some m → Among x rest → (n : ℕ) × (level_of levels x ≡ Some n) × (n < m)
level_in links levels [] a z m x h e among = absurd among
level_in links levels (d ∷ rest) a z m x h e (inl is) =
    (h.0.0, ap (level_of levels) is ∙ h.0.2.has_level, (let same = one_level levels a m (suc h.0.0) e h.0.1 in omega arith))
level_in links levels (d ∷ rest) a z m x h e (inr later) = grind (arith, one_level, level_in links levels rest d z h.0.0 x h.1 h.0.2.has_level later)

descent_length : (links : ℕ → ℕ → Bool) (levels : List (Option ℕ)) (rest : List ℕ) (a z m : ℕ) → Descent links levels a rest z → level_of levels a ≡ Some m → level_of levels z ≡ Some 0 → length rest ≡ m
descent_length links levels [] a z m same e last = one_level levels z 0 m last (ap (level_of levels) (sym same) ∙ e)
descent_length links levels (d ∷ rest) a z m h e last = grind (arith, one_level, descent_length links levels rest d z h.0.0 h.1 h.0.2.has_level last)

descent_differs : (links : ℕ → ℕ → Bool) (levels : List (Option ℕ)) (rest : List ℕ) (a z m : ℕ) → Descent links levels a rest z → level_of levels a ≡ Some m → Different (a ∷ rest)
descent_differs links levels [] a z m h e = ((λ (bad : ⊥). bad), tt)
descent_differs links levels (d ∷ rest) a z m h e = (
  grind (arith, level_in, one_level),
  descent_differs links levels rest d z h.0.0 h.1 h.0.2.has_level,
)

levels_up : (links : ℕ → ℕ → Bool) (without root : ℕ) (levels : List (Option ℕ)) → Simple links → Searched links without root levels → (rest : List ℕ) (a : ℕ) → Walk links a rest root → ¬ Among without (a ∷ rest) → (n : ℕ) × (level_of levels a ≡ Some n) × (n ≤ length rest)
levels_up links without root levels simple searched [] a same clear = (0, ap (level_of levels) same ∙ searched.rooted, omega arith)
levels_up links without root levels simple searched (d ∷ rest) a walk clear =
    let below = levels_up links without root levels simple searched rest d walk.1 (λ h. clear (inr h)) in
    let here = searched.settled d a below.0 below.1 (simple.both_ways a d walk.0) (λ is. clear (inl (sym is))) in
    (here.0, here.1, omega (arith, here.2, below.2))

descent_least : (links : ℕ → ℕ → Bool) (without root : ℕ) (levels : List (Option ℕ)) → Simple links → Searched links without root levels → (rest : List ℕ) (a z : ℕ) → Descent links levels a rest z → level_of levels z ≡ Some 0 → (other : List ℕ) → Walk links a other root → ¬ Among without (a ∷ other) → length other ≡ length rest → NoLater rest other
descent_least links without root levels simple searched [] a z h last other walk clear same = tt
descent_least links without root levels simple searched (d ∷ rest) a z h last [] walk clear same = absurd (omega arith)
descent_least links without root levels simple searched (d ∷ rest) a z h last (e ∷ other) walk clear same =
    let m : ℕ = h.0.0 in
    let shorter : length rest ≡ m = descent_length links levels rest d z m h.1 h.0.2.has_level last in
    let up = levels_up links without root levels simple searched other e walk.1 (λ w. clear (inr w)) in
    let back = searched.settled e a up.0 up.1 (simple.both_ways a e walk.0) (λ is. clear (inl (sym is))) in
    let high : back.0 ≡ suc m = one_level levels a back.0 (suc m) back.1 h.0.1 in
    let there : up.0 ≡ m = omega (arith, up.2, back.2) in
    let least : d ≤ e = h.0.2.smallest e walk.0 (up.1 ∙ ap Some there) in
    elim (cases_eq d e) [
      | inl is ↦
          inr (is, descent_least links without root levels simple searched rest d z h.1 last other (subst (λ x. Walk links x other root) (sym is) walk.1) (subst (λ x. ¬ Among without (x ∷ other)) (sym is) (λ w. clear (inr w))) (omega arith))
      | inr differ ↦ inl (omega arith)
    ]

pub FirstWalk-from_descent : (links : ℕ → ℕ → Bool) (b a c : ℕ) (levels : List (Option ℕ)) → Simple links → Searched links b c levels → (rest : List ℕ) (z m : ℕ) → Descent links levels a rest z → level_of levels a ≡ Some m → level_of levels z ≡ Some 0 → FirstWalk links b a c rest
FirstWalk-from_descent links b a c levels simple searched rest z m h e last =
    let is_root : z ≡ c = grind arith in
    let not_left_out : (x n : ℕ) → level_of levels x ≡ Some n → b ≢ x = λ x n at is. (searched.stepped x n at).0 (sym is) in
    record {
      walk = subst (Walk links a rest) is_root (Walk-from_Descent links levels rest a z h);
      around = grind (arith, level_in);
      different = descent_differs links levels rest a z m h e;
      fewest = grind (arith, levels_up, one_level, descent_length);
      least = λ other walk clear same. descent_least links b c levels simple searched rest a z h last other walk clear same;
    }

pub SmallestAt-here : (rows : List (List ℕ)) (at level k : ℕ) (row : List ℕ) (levels : List (Option ℕ)) → IsGraph rows → row ≡ links_at rows at → k < length row →
    ((i : ℕ) → i < k → ¬ (level_of levels (get_or row i 0) ≡ Some level)) → level_of levels (get_or row k 0) ≡ Some level → SmallestAt (linked rows) levels at level (get_or row k 0)
SmallestAt-here rows at level k row levels graph is lt earlier here = record {
  link = row_link rows at k row is lt;
  has_level = here;
  smallest = λ e link e_level.
      let p = row_place rows at e row is link in
      grind (arith, cases_lt, cases_eq, get_or, row_rises);
}
