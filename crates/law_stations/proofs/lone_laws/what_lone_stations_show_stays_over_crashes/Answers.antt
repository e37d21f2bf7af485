use Rattle.law_stations.proofs.OverCrashes.{alone-stays-over}
use Rattle.law_stations.proofs.lone_laws.what_lone_stations_show_stays_over_crashes.Goals as goal

pub returns : goal.returns
returns c = alone-stays-over
