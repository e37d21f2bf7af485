use Rattle.std.proofs.Common.{◌≡◌, ◌≢◌, ◌<◌, ℕ, None, length}
use Rattle.model_graph.specs.{Levels.level_of, Parts.AreLabelled, Rows.linked}
use Rattle.model_graph.proofs.parts.part_labels.Given as goal

abbrev pub invariant-members : goal.invariant-members
invariant-members l = record {
  same_length : length l.labels.items ≡ length l.graph;
  earlier : (k : ℕ) → k < l.member → level_of l.labels.items k ≢ None;
  labelled : AreLabelled (linked l.graph) l.labels.items;
}
