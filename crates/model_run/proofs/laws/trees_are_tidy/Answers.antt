use Rattle.model_graph.proofs.Cycles.{Polygons-from_no_cycle}
use Rattle.model_run.specs.Tidy.{lists}
use Rattle.model_run.proofs.laws.trees_are_tidy.Goals as goal

pub returns : goal.returns
returns c = λ files tag joined none. record { joined = joined; cycles = Polygons-from_no_cycle (lists files tag) none }
