use Rattle.std.proofs.Common.{refl, arith}
use Rattle.model_graph.{specs.Blocks.{block_of, top_of, InOneBlock}, proofs.PinchSearch.for_each_link}
use Rattle.model_graph.proofs.division.links_stay.Goals as goal

pub returns : goal.returns
returns c = (
  λ _.
      for_each_link c.args.graph.now c.args.member c.links-other-items.result.now (InOneBlock (block_of c.args.blocks.now) (top_of c.args.blocks.now) c.args.member) c.links-other-items.ensures.value
      (λ k lt. c.links.invariant k (omega arith)),
  λ _. refl,
)
