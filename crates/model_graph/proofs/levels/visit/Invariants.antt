use Rattle.model_graph.specs.Visits.{Visited}
use Rattle.model_graph.proofs.levels.visit.Given as goal

abbrev pub invariant-visiting : goal.invariant-visiting
invariant-visiting l = Visited l.other-items l.other-index l.without l.level l.initial.levels.items l.levels.items l.initial.queue.items l.queue.items
