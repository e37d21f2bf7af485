use Rattle.std.proofs.Common.{arith}
use Rattle.model_graph.{specs.Rows.linked, proofs.Rounds.ring_of_steps}
use Rattle.model_graph.proofs.block_loops.is_ring.Goals as goal

pub returns : goal.returns
returns c all = ring_of_steps (linked c.args.graph.now) c.args.round.now (λ k lt. c.round.invariant.steps k (omega arith))
