use Rattle.std.proofs.Common.{◌+◌, ◌-◌, length}
use Rattle.model_graph.specs.{Rows.linked, Floods.Flooding, Visits.unlevelled}
use Rattle.model_graph.proofs.levels.flood.Given as goal

abbrev pub invariant-flooding : goal.invariant-flooding
invariant-flooding l = Flooding (linked l.graph) l.without l.root l.fn.levels.items l.levels.items l.queue.items l.head

abbrev pub decreases-flooding : goal.decreases-flooding
decreases-flooding l = unlevelled l.levels.items + length l.queue.items - l.head
