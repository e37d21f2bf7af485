use Rattle.std.proofs.Common.{ℕ, List, get_or, ◌∙◌, ap, arith}
use Rattle.model_graph.{specs.Levels.level_of, proofs.{PinchSearch.{row_link, row_place}, Descending.SmallestAt-here}}
use Rattle.model_graph.proofs.ring.smallest_at.Goals as goal

pub has_level-requires : goal.has_level-requires
has_level-requires c =
    let row : List ℕ = c.links-other-items.result.now in
    let k : ℕ = c.links.other-index in
    omega (arith, c.links-other-items.ensures.sound.within c.args.member (get_or row k 0) (row_link c.args.graph.now c.args.member k row c.links-other-items.ensures.value c.links-test.true))

pub returns-then-has_level : goal.returns-then-has_level
returns-then-has_level c =
    SmallestAt-here c.args.graph.now c.args.member c.args.level c.links.other-index c.links-other-items.result.now c.args.levels.now c.links-other-items.ensures.sound c.links-other-items.ensures.value c.links-test.true c.links.invariant (c.has_level.ensures.0 c.if-has_level.true)

pub unreachable-requires : goal.unreachable-requires
unreachable-requires c =
    let row : List ℕ = c.links-other-items.result.now in
    let there = c.requires.there in
    let p = row_place c.args.graph.now c.args.member there.0 row c.links-other-items.ensures.value there.1 in
    c.links.invariant p.0 (omega (arith, p.1)) (ap (level_of c.args.levels.now) p.2 ∙ there.2)
