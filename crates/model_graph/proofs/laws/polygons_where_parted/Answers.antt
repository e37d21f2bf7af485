use Rattle.model_graph.proofs.Cycles.{Parted-from_Polygons, Polygons-from_Parted, Polygons-from_no_cycle, AllParted-from_NoCycle, NoCycle-from_AllParted}
use Rattle.model_graph.proofs.Members.{ℕ-can_tell}
use Rattle.model_graph.proofs.laws.polygons_where_parted.Goals as goal

pub returns : goal.returns
returns c = record {
  same = λ linked simple. (Parted-from_Polygons ℕ-can_tell linked simple, Polygons-from_Parted ℕ-can_tell linked simple);
  trees = λ linked. Polygons-from_no_cycle linked;
  forest = λ linked simple. (AllParted-from_NoCycle ℕ-can_tell linked simple, NoCycle-from_AllParted linked simple);
}
