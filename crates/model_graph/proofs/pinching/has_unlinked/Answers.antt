use Rattle.std.proofs.{Common.◌<◌, Common.IsTrue, Common.arith, lemmas.Bool.false≢true}
use Rattle.model_graph.{specs.{Rows.linked, Blocks.{block_of, top_of, OnOneSide}}, proofs.PinchSearch.for_each_link}
use Rattle.model_graph.proofs.pinching.has_unlinked.Goals as goal

pub returns : goal.returns
returns c = (
  λ yes. absurd (false≢true yes),
  λ found.
      absurd
      (found.4
      (for_each_link c.args.graph.now c.args.at c.links-other-items.result.now
      (λ b. c.args.one < b → OnOneSide (block_of c.args.blocks.now) (top_of c.args.blocks.now) c.args.at c.args.one b → IsTrue (linked c.args.graph.now c.args.one b))
      c.links-other-items.ensures.value
      (λ k lt. c.others.invariant k (omega arith)) found.0 found.1 found.2 found.3)),
)
