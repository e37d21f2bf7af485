use Rattle.std.proofs.Common.{◌≡◌, ◌≢◌, ◌<◌, ℕ, Option, List, length, subst, arith, MatchOption, None}
use Rattle.model_graph.{specs.{Rows.linked, Levels.{level_of, AreLevels}}, proofs.PinchSearch.answered}
use Rattle.model_graph.proofs.reach.unreached.Goals as goal

pub returns : goal.returns
returns c =
    let rows = c.args.graph.now in
    let levels : List (Option ℕ) = c.in_ok-levels.levels.items in
    let are : AreLevels (linked rows) (length rows) 0 levels = subst (λ n. AreLevels (linked rows) n 0 levels) c.len-2.ensures.value c.in_ok-levels.ensures.levels in
    let seen : c.deref.result.now ≡ levels = c.deref.ensures.value in
    let h : MatchOption c.first_without_level.result ((k : ℕ) → k < length levels → level_of levels k ≢ None) (λ u. (u < length levels) × (level_of levels u ≡ None) × ((k : ℕ) → k < u → level_of levels k ≢ None)) =
    subst (λ (now : List (Option ℕ)). MatchOption c.first_without_level.result ((k : ℕ) → k < length now → level_of now k ≢ None) (λ u. (u < length now) × (level_of now u ≡ None) × ((k : ℕ) → k < u → level_of now k ≢ None))) seen c.first_without_level.ensures in
    answered rows levels c.len.ensures.sound are (omega arith) (omega (arith, c.in_ok-levels.ensures.lengths)) c.first_without_level.result h
