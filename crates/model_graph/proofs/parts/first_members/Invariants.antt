use Rattle.std.proofs.Common.{◌<◌, ◌↔◌, ℕ, Contains}
use Rattle.model_graph.specs.{Parts.IsFirstMember, Rows.IsAscending}
use Rattle.model_graph.proofs.parts.first_members.Given as goal

abbrev pub invariant-members : goal.invariant-members
invariant-members l = record {
  ascending : IsAscending l.firsts.items;
  members : (f : ℕ) → Contains l.firsts.items f ↔ ((f < l.member) × IsFirstMember l.labels.items f);
}
