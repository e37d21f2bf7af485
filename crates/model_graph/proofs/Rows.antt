-- Links as rows, and links as items of a row.
use Rattle.std.proofs.Common.{◌≡◌, ◌==◌, ◌<◌, ◌≤◌, ℕ, zero, suc, IsTrue, List, [], ◌∷◌, length, get_or, arith, inl, inr, sym, ◌≢◌, ◌+◌, ◌++◌, Bool, false, Option, Some, None, set, ◌∙◌}
use Rattle.std.{proofs.lemmas.Bool.{eq-eqb, eqb-true, or_cases, or_left, or_right, false≢true, cases_eq, cases_lt}, specs.List.list_any}
use Rattle.std.proofs.lemmas.List.{get_or_past, length_push, length-set, get_or_push, get_or_append_left, get_or-set_same, get_or-set_other}
use Rattle.model_graph.specs.{Rows.{linked, IsAscending, links_at, IsGraph, EachAnswered}, Blocks.{IsInBlock, AreBlocks, IsLastBefore, LastMembers}}

pub holds_at : (row : List ℕ) (x k : ℕ) → k < length row → get_or row k 0 ≡ x → IsTrue (list_any (λ link. link == x) row)
holds_at [] x k lt e = absurd (omega arith)
holds_at (y ∷ row) x zero lt e = or_left (y == x) (list_any (λ link. link == x) row) (eq-eqb y x e)
holds_at (y ∷ row) x (suc k) lt e = or_right (y == x) (list_any (λ link. link == x) row) (holds_at row x k (omega arith) e)

pub place_of : (row : List ℕ) (x : ℕ) → IsTrue (list_any (λ link. link == x) row) → (k : ℕ) × (k < length row) × (get_or row k 0 ≡ x)
place_of [] x h = absurd (false≢true h)
place_of (y ∷ row) x h =
    elim (or_cases (y == x) (list_any (λ link. link == x) row) h) [
      | inl e ↦ (0, omega arith, eqb-true y x e)
      | inr later ↦ let found = place_of row x later in (suc found.0, omega (arith, found.1), found.2)
    ]

pub linked_within : (rows : List (List ℕ)) (a b : ℕ) → IsTrue (linked rows a b) → a < length rows
linked_within rows a b h = grind (arith, cases_lt, false≢true, get_or_past)

pub rising : (row : List ℕ) → IsAscending row → (i j : ℕ) → i ≤ j → j < length row → get_or row i 0 ≤ get_or row j 0
rising row up i j le lt = grind (arith, cases_eq, get_or)

-- Rows are a graph exactly if the tests of their links pass.

pub IsGraph-from_tests : (rows : List (List ℕ)) → ((a : ℕ) → a < length rows → IsAscending (links_at rows a)) → ((a : ℕ) → a < length rows → EachAnswered rows a) → IsGraph rows
IsGraph-from_tests rows rising answered = grind (arith, linked_within, cases_lt, get_or_past)

pub answered_in_graph : (rows : List (List ℕ)) → IsGraph rows → (a : ℕ) → EachAnswered rows a
answered_in_graph rows graph a b link = grind arith

-- A division into blocks, tested member by member, and the full blocks in it.

pub AreBlocks-from_each : (rows : List (List ℕ)) (block top rank : ℕ → ℕ) →
    ((x : ℕ) → x < length rows → IsInBlock (linked rows) (length rows) block top rank x) → AreBlocks (linked rows) (length rows) block top rank
AreBlocks-from_each rows block top rank each = grind (arith, linked_within)

IsLastBefore-passed : (block : ℕ → ℕ) (k x : ℕ) (last : Option ℕ) → block x ≢ k → IsLastBefore block k x last → IsLastBefore block k (x + 1) last
IsLastBefore-passed block k x last h1 h2 = grind (arith, cases_eq)

previous_more : (block : ℕ → ℕ) (members x : ℕ) (previous last : List (Option ℕ)) (found : Option ℕ) → LastMembers block members x previous last →
    (block x < members → IsLastBefore block (block x) x found) →
    (y : ℕ) → y < x + 1 → block y < members → IsLastBefore block (block y) y (get_or (previous ++ found ∷ []) y None)
previous_more block members x previous last found h here y lt inside = grind (arith, cases_eq, get_or, get_or_push, get_or_append_left)

pub LastMembers-made : (block : ℕ → ℕ) (members x : ℕ) (previous last : List (Option ℕ)) (found : Option ℕ) → LastMembers block members x previous last →
    block x < members → found ≡ get_or last (block x) None → LastMembers block members (x + 1) (previous ++ found ∷ []) (set last (block x) (Some x))
LastMembers-made block members x previous last found h inside is = grind (arith, length_push, length-set, previous_more, cases_eq, get_or, get_or-set_same, get_or-set_other, IsLastBefore-passed)

pub LastMembers-left_out : (block : ℕ → ℕ) (members x : ℕ) (previous last : List (Option ℕ)) → LastMembers block members x previous last →
    members ≤ block x → LastMembers block members (x + 1) (previous ++ None ∷ []) last
LastMembers-left_out block members x previous last h past = record {
  one_each = omega (arith, length_push {X = Option ℕ} previous None, h.one_each);
  all_blocks = h.all_blocks;
  previous = previous_more block members x previous last None h (λ lt. absurd (omega arith));
  last = λ k lt. IsLastBefore-passed block k x (get_or last k None) (λ (e : block x ≡ k). absurd (omega arith)) (h.last k lt);
}

pub marked_more : (P : ℕ → Type 0) (block : ℕ → ℕ) (old new : List Bool) (x : ℕ) →
    ((y : ℕ) → y < x → IsTrue (get_or old (block y) false) → P y) → ((k : ℕ) → IsTrue (get_or new k false) → IsTrue (get_or old k false)) →
    (IsTrue (get_or new (block x) false) → P x) → (y : ℕ) → y < x + 1 → IsTrue (get_or new (block y) false) → P y
marked_more P block old new x before kept here y lt is = grind (arith, cases_eq, get_or)

pub unmarked : (marks : List Bool) (b : ℕ) → b < length marks → ¬ IsTrue (get_or (set marks b false) b false)
unmarked marks b lt is = false≢true (sym (get_or-set_same marks b false false lt) ∙ is)

pub kept_marks : (marks : List Bool) (b : ℕ) → b < length marks → (k : ℕ) → IsTrue (get_or (set marks b false) k false) → IsTrue (get_or marks k false)
kept_marks marks b lt k is = grind (arith, cases_eq, unmarked, get_or, get_or-set_other)
