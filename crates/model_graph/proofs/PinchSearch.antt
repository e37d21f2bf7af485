-- Pinches found link by link.
use Rattle.std.proofs.Common.{◌≡◌, ◌≢◌, ◌<◌, ℕ, Bool, IsTrue, Option, None, List, length, get_or, sym, subst, arith, inl, inr, Some, MatchOption, [], ◌∷◌}
use Rattle.std.proofs.lemmas.{Bool.cases_eq, Bool.cases_lt, Option.MatchOption-at_some, Option.MatchOption-at_none}
use Rattle.model_graph.specs.{Walk.{Simple, Among, Walk, Reaches, Connected}, Reach.FirstUnreached}
use Rattle.model_graph.specs.{Beyond.Around, Beyond.Parted, Rows.links_at, Rows.linked, Rows.IsGraph, Levels.level_of, Levels.AreLevels, Pinches.IsPinch, Pinches.FirstOther, Pinches.FirstHere}
use Rattle.model_graph.proofs.{Members.ℕ-can_tell, Members.Around-sym, Members.Beyond-from_no_around, Members.Connected-from_root, Rows.holds_at, Rows.place_of, Floods.level_cases}

pub Simple-from_graph : (rows : List (List ℕ)) → IsGraph rows → Simple (linked rows)
Simple-from_graph rows graph = record { both_ways = graph.both_ways; no_self = graph.no_self }

pub row_link : (rows : List (List ℕ)) (at k : ℕ) (row : List ℕ) → row ≡ links_at rows at → k < length row → IsTrue (linked rows at (get_or row k 0))
row_link rows at k row is lt = grind (arith, holds_at, get_or)

pub row_place : (rows : List (List ℕ)) (at c : ℕ) (row : List ℕ) → row ≡ links_at rows at → IsTrue (linked rows at c) → (k : ℕ) × (k < length row) × (get_or row k 0 ≡ c)
row_place rows at c row is link = grind (arith, get_or, place_of)

pub for_each_link : (rows : List (List ℕ)) (at : ℕ) (row : List ℕ) (P : ℕ → Type 0) → row ≡ links_at rows at → ((k : ℕ) → k < length row → P (get_or row k 0)) → (b : ℕ) → IsTrue (linked rows at b) → P b
for_each_link rows at row P is each b link =
    let p = row_place rows at b row is link in
    subst P p.2 (each p.0 p.1)

pub row_rises : (rows : List (List ℕ)) (at : ℕ) (row : List ℕ) → IsGraph rows → row ≡ links_at rows at → (i j : ℕ) → i < j → j < length row → get_or row i 0 < get_or row j 0
row_rises rows at row graph is = grind (arith, get_or)

pub around_from_level : (links : ℕ → ℕ → Bool) (x root b : ℕ) (levels : List (Option ℕ)) → AreLevels links x root levels → level_of levels b ≢ None → Around links x root b
around_from_level links x root b levels are some = grind (arith, level_cases (level_of levels b), MatchOption-at_some)

pub level_from_around : (links : ℕ → ℕ → Bool) (x root b : ℕ) (levels : List (Option ℕ)) → AreLevels links x root levels → Around links x root b → level_of levels b ≢ None
level_from_around links x root b levels are around none = grind (arith, MatchOption-at_none)

pub FirstOther-here : (rows : List (List ℕ)) (at one k : ℕ) (row : List ℕ) (levels : List (Option ℕ)) → IsGraph rows → row ≡ links_at rows at → k < length row → IsTrue (linked rows at one) → AreLevels (linked rows) at one levels →
    ((i : ℕ) → i < k → ¬ IsPinch (linked rows) at one (get_or row i 0)) →
    one < get_or row k 0 → level_of levels (get_or row k 0) ≢ None → ¬ IsTrue (linked rows one (get_or row k 0)) → FirstOther (linked rows) at one (get_or row k 0)
FirstOther-here rows at one k row levels graph is lt link are earlier order some apart = record {
  pinch = grind (arith, row_link, around_from_level, get_or);
  first = λ f pinch.
      let p = row_place rows at f row is pinch.other in
      grind (arith, cases_lt, cases_eq, get_or, row_rises);
}

pub not_pinch_here : (rows : List (List ℕ)) (at one c : ℕ) (levels : List (Option ℕ)) → AreLevels (linked rows) at one levels → ¬ ((one < c) × (level_of levels c ≢ None) × ¬ IsTrue (linked rows one c)) → ¬ IsPinch (linked rows) at one c
not_pinch_here rows at one c levels are not_other pinch = grind (arith, level_from_around)

pub no_pinch_in_row : (rows : List (List ℕ)) (at one : ℕ) (row : List ℕ) → row ≡ links_at rows at → ((i : ℕ) → i < length row → ¬ IsPinch (linked rows) at one (get_or row i 0)) → (c : ℕ) → ¬ IsPinch (linked rows) at one c
no_pinch_in_row rows at one row is none c pinch =
    let p = row_place rows at c row is pinch.other in
    none p.0 p.1 (subst (IsPinch (linked rows) at one) (sym p.2) pinch)

pub FirstHere-here : (rows : List (List ℕ)) (at k c : ℕ) (row : List ℕ) → IsGraph rows → row ≡ links_at rows at → k < length row →
    ((i f : ℕ) → i < k → ¬ IsPinch (linked rows) at (get_or row i 0) f) → FirstOther (linked rows) at (get_or row k 0) c → FirstHere (linked rows) at (get_or row k 0) c
FirstHere-here rows at k c row graph is lt earlier found = record {
  pinch = found.pinch;
  first = λ d f pinch.
      let p = row_place rows at d row is pinch.one in
      grind (arith, cases_lt, cases_eq, get_or, row_rises);
}

pub no_pinch_at : (rows : List (List ℕ)) (at : ℕ) (row : List ℕ) → row ≡ links_at rows at → ((i f : ℕ) → i < length row → ¬ IsPinch (linked rows) at (get_or row i 0) f) → (a c : ℕ) → ¬ IsPinch (linked rows) at a c
no_pinch_at rows at row is none a c pinch =
    let p = row_place rows at a row is pinch.one in
    none p.0 c p.1 (subst (λ one. IsPinch (linked rows) at one c) (sym p.2) pinch)

pub Parted-from_no_pinch : (links : ℕ → ℕ → Bool) → Simple links → ((b a c : ℕ) → ¬ IsPinch links b a c) → Parted links
Parted-from_no_pinch links simple none b a c link_a link_c differ apart = Beyond-from_no_around ℕ-can_tell links b c a (grind (arith, cases_lt, Around-sym))

-- The levels from member 0 decide which walks the whole graph has.

pub not_past_members : (rows : List (List ℕ)) → IsGraph rows → (rest : List ℕ) (a b : ℕ) → a < length rows → Walk (linked rows) a rest b → ¬ Among (length rows) (a ∷ rest)
not_past_members rows graph rest a b lt walk (inl is) = absurd (omega arith)
not_past_members rows graph [] a b lt walk (inr later) = absurd later
not_past_members rows graph (c ∷ rest) a b lt walk (inr later) = not_past_members rows graph rest c b (graph.within a c walk.0) walk.1 later

pub around_none : (rows : List (List ℕ)) → IsGraph rows → (a b : ℕ) → a < length rows → Reaches (linked rows) a b → Around (linked rows) (length rows) a b
around_none rows graph a b lt walk = (walk.0, walk.1, not_past_members rows graph walk.0 a b lt walk.1)

pub level_of_reached : (rows : List (List ℕ)) (levels : List (Option ℕ)) → IsGraph rows → AreLevels (linked rows) (length rows) 0 levels → (b : ℕ) → level_of levels b ≢ None → Reaches (linked rows) 0 b
level_of_reached rows levels graph are b some =
    let around = around_from_level (linked rows) (length rows) 0 b levels are some in
    (around.0, around.1)

pub Connected-from_levels : (rows : List (List ℕ)) (levels : List (Option ℕ)) → IsGraph rows → AreLevels (linked rows) (length rows) 0 levels → ((k : ℕ) → k < length rows → level_of levels k ≢ None) → Connected (λ member. member < length rows) (linked rows)
Connected-from_levels rows levels graph are all =
    Connected-from_root (λ member. member < length rows) (linked rows) (Simple-from_graph rows graph) 0 (λ a lt. level_of_reached rows levels graph are a (all a lt))

pub FirstUnreached-from_levels : (rows : List (List ℕ)) (levels : List (Option ℕ)) → IsGraph rows → AreLevels (linked rows) (length rows) 0 levels → 0 < length rows → (u : ℕ) → (u < length rows) × (level_of levels u ≡ None) × ((k : ℕ) → k < u → level_of levels k ≢ None) → FirstUnreached (linked rows) (length rows) u
FirstUnreached-from_levels rows levels graph are some u h = record {
  within = h.0;
  apart = λ walk. level_from_around (linked rows) (length rows) 0 u levels are (around_none rows graph 0 u some walk) h.1;
  first = λ k lt. level_of_reached rows levels graph are k (h.2 k lt);
}

pub answered : (rows : List (List ℕ)) (levels : List (Option ℕ)) → IsGraph rows → AreLevels (linked rows) (length rows) 0 levels → 0 < length rows → length levels ≡ length rows → (found : Option ℕ) →
    MatchOption found ((k : ℕ) → k < length levels → level_of levels k ≢ None) (λ u. (u < length levels) × (level_of levels u ≡ None) × ((k : ℕ) → k < u → level_of levels k ≢ None)) →
    MatchOption found (Connected (λ member. member < length rows) (linked rows)) (FirstUnreached (linked rows) (length rows))
answered rows levels graph are some same None all = Connected-from_levels rows levels graph are (λ k lt. all k (omega arith))
answered rows levels graph are some same (Some u) h = FirstUnreached-from_levels rows levels graph are some u (omega (arith, h.0), h.1, h.2)
