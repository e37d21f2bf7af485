use Rattle.law_stations.proofs.AnyReader.{tosses-known}
use Rattle.law_stations.proofs.laws.tosses_are_what_is_known.Goals as goal

pub returns : goal.returns
returns g c = λ honest noting. tosses-known _ honest _ noting
