use Rattle.law_stations.proofs.Repairs.{bring-there}
use Rattle.law_stations.proofs.repair_laws.repairs_bring_all_there.Goals as goal

pub returns : goal.returns
returns c = λ stations packets staging files any area n after rounds key. bring-there stations packets staging files any area n after rounds key
