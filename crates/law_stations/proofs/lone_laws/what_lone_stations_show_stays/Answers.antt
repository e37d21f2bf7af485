use Rattle.law_stations.proofs.Stays.{alone-stays}
use Rattle.law_stations.proofs.lone_laws.what_lone_stations_show_stays.Goals as goal

pub returns : goal.returns
returns c = alone-stays
