use Rattle.std.proofs.Common.{◌+◌, ◌-◌, length}
use Rattle.model_graph.specs.{Rows.linked, Parts.Spreading, Visits.unlevelled}
use Rattle.model_graph.proofs.parts.spread.Given as goal

abbrev pub invariant-spreading : goal.invariant-spreading
invariant-spreading l = Spreading (linked l.graph) l.root l.fn.labels.items l.labels.items l.queue.items l.head

abbrev pub decreases-spreading : goal.decreases-spreading
decreases-spreading l = unlevelled l.labels.items + length l.queue.items - l.head
