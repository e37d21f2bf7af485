use Rattle.std.proofs.Common.{refl, arith}
use Rattle.model_graph.{specs.Rows.Answered, proofs.PinchSearch.for_each_link}
use Rattle.model_graph.proofs.sound.row_is_answered.Goals as goal

pub returns : goal.returns
returns c = (
  λ _.
      for_each_link c.args.rows.now c.args.member c.row_of-other-items.result.now (Answered c.args.rows.now c.args.member) c.row_of-other-items.ensures (λ k lt. c.links.invariant k (omega arith)),
  λ _. refl,
)
