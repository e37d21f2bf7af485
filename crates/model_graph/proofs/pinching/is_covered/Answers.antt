use Rattle.std.proofs.Common.{◌≢◌, IsTrue, arith}
use Rattle.model_graph.{specs.{Rows.linked, Blocks.{block_of, top_of, OnOneSide}}, proofs.PinchSearch.for_each_link}
use Rattle.model_graph.proofs.pinching.is_covered.Goals as goal

pub returns : goal.returns
returns c =
    λ _.
    for_each_link c.args.graph.now c.args.at c.links-other-items.result.now
    (λ b. OnOneSide (block_of c.args.blocks.now) (top_of c.args.blocks.now) c.args.at c.args.chosen b → b ≢ c.args.chosen → IsTrue (linked c.args.graph.now c.args.chosen b))
    c.links-other-items.ensures.value
    (λ k lt. c.links.invariant k (omega arith))
