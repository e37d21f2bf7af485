use Rattle.std.proofs.{Common.{◌≡◌, ◌≢◌, ◌-◌, ◌<◌, ℕ, suc, Option, Some, None, IsSome, List, length, refl, sym, ◌∙◌, subst, arith}, lemmas.List.get_or_read}
use Rattle.model_graph.specs.{Rows.linked, Rows.IsGraph, Levels.level_of, Levels.AreLevels, Pinches.IsPinch, Descents.SmallestAt}
use Rattle.model_graph.proofs.{Members.Around-sym, Floods.level_cases, Floods.level_within, PinchSearch.Simple-from_graph, PinchSearch.level_from_around}
use Rattle.model_graph.proofs.Descending.{Descent-push, lower_exists, FirstWalk-from_descent}
use Rattle.model_graph.proofs.ring.find_ring.Goals as goal

other_end : (rows : List (List ℕ)) (b a c : ℕ) → IsGraph rows → IsPinch (linked rows) b a c → (c < length rows) × (c ≢ b)
other_end rows b a c graph pinch = grind arith

one_has_level : (rows : List (List ℕ)) (b a c : ℕ) (levels : List (Option ℕ)) → IsGraph rows → IsPinch (linked rows) b a c → AreLevels (linked rows) b c levels → (m : ℕ) × (level_of levels a ≡ Some m)
one_has_level rows b a c levels graph pinch are = grind (arith, Around-sym (linked rows) (Simple-from_graph rows graph) b a c pinch.around, level_cases (level_of levels a), level_from_around)

pub levels_around-requires-clause-inside : goal.levels_around-requires-clause-inside
levels_around-requires-clause-inside c = grind (arith, other_end)

pub levels_around-requires-clause-apart : goal.levels_around-requires-clause-apart
levels_around-requires-clause-apart c = grind (arith, other_end)

pub unwrap-level-requires : goal.unwrap-level-requires
unwrap-level-requires c =
    let levels : List (Option ℕ) = c.in_ok-levels.levels.items in
    let has = one_has_level c.args.graph.now c.args.pinch.at c.args.pinch.one c.args.pinch.other levels c.requires.sound c.requires.pinch c.in_ok-levels.ensures.levels in
    let at : c.index.result.now ≡ level_of levels c.args.pinch.one = get_or_read levels c.args.pinch.one c.index.result.now (level_within levels c.args.pinch.one has.0 has.1) c.index.ensures None in
    subst IsSome (sym (at ∙ has.1)) refl

pub smallest_at-member-requires-clause-there : goal.smallest_at-member-requires-clause-there
smallest_at-member-requires-clause-there c = grind (arith, lower_exists, Simple-from_graph)

pub descending-preserved : goal.descending-preserved
descending-preserved c =
    let levels : List (Option ℕ) = c.in_ok-levels.levels.items in
    let links = linked c.args.graph.now in
    let so_far = c.descending.invariant.0 in
    let next : ℕ = c.smallest_at-member.result in
    let seen : c.deref.result.now ≡ levels = c.deref.ensures.value in
    let above : c.descending.level ≡ suc (c.descending.level - 1) = omega arith in
    let smallest : SmallestAt links levels c.descending.member (c.descending.level - 1) next = subst (λ (now : List (Option ℕ)). SmallestAt links now c.descending.member (c.descending.level - 1) next) seen c.smallest_at-member.ensures in (
      grind (arith, Descent-push),
      smallest.has_level,
    )

pub returns : goal.returns
returns c =
    let levels : List (Option ℕ) = c.in_ok-levels.levels.items in
    let so_far = c.descending.invariant.0 in
    let has = one_has_level c.args.graph.now c.args.pinch.at c.args.pinch.one c.args.pinch.other levels c.requires.sound c.requires.pinch c.in_ok-levels.ensures.levels in
    let lowest : c.descending.level ≡ 0 = omega arith in grind (arith, FirstWalk-from_descent, Simple-from_graph)
