use Rattle.law_stations.proofs.LoneEpochs.{alone-goes-on}
use Rattle.law_stations.proofs.lone_laws.lone_stations_go_on.Goals as goal

pub returns : goal.returns
returns c = alone-goes-on
