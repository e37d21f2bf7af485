use Rattle.law_stations.proofs.Repairs.{bring-all}
use Rattle.law_stations.proofs.repair_laws.repairs_bring_all_everywhere.Goals as goal

pub returns : goal.returns
returns c = λ stations packets staging files any area joined n long after rounds key no_stubs.
    bring-all stations packets staging files any area n after rounds joined key no_stubs long
