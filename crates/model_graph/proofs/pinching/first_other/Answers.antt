use Rattle.std.proofs.{Common.{ℕ, List, get_or, arith, below_more}, lemmas.Bool.both_ways}
use Rattle.model_graph.proofs.PinchSearch.{FirstOther-here, not_pinch_here, no_pinch_in_row, row_link}
use Rattle.model_graph.proofs.pinching.first_other.Goals as goal

pub is_other-requires-clause-within : goal.is_other-requires-clause-within
is_other-requires-clause-within c =
    let row : List ℕ = c.links-other-items.result.now in
    let k : ℕ = c.others.other-index in
    omega (arith, c.links-other-items.ensures.sound.within c.args.at (get_or row k 0) (row_link c.args.graph.now c.args.at k row c.links-other-items.ensures.value c.others-test.true))

pub returns-then-is_other : goal.returns-then-is_other
returns-then-is_other c = grind (arith, c.is_other.ensures.0 c.if-is_other.true, FirstOther-here)

pub others-preserved : goal.others-preserved
others-preserved c = grind (arith, below_more, not_pinch_here, get_or, both_ways)

pub returns : goal.returns
returns c =
    let row : List ℕ = c.links-other-items.result.now in
    no_pinch_in_row c.args.graph.now c.args.at c.args.one row c.links-other-items.ensures.value (λ i lt. c.others.invariant i (omega arith))
