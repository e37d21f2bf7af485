use Rattle.std.proofs.Common.{arith}
use Rattle.model_graph.{specs.Rows.linked, proofs.Rounds.incomplete_cycle}
use Rattle.model_graph.proofs.block_loops.is_incomplete_cycle.Goals as goal

pub returns : goal.returns
returns c = λ unlinked.
    incomplete_cycle (linked c.args.graph.now) c.args.round.now (omega arith) (c.is_ring.ensures c.if-not-is_ring.false) (c.has_unlinked.ensures unlinked)
    (c.in_ok-different.ensures c.if-not-different.false)
