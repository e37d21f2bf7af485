use Rattle.law_stations.proofs.Repairs.{reach}
use Rattle.law_stations.proofs.repair_laws.packets_of_repairs_reach.Goals as goal

pub returns : goal.returns
returns c = λ stations packets staging files any area n before rounds i from messages cursor holds to held after resent tossed right.
    reach stations packets staging files any area n before rounds i from messages cursor holds to held after resent tossed right
