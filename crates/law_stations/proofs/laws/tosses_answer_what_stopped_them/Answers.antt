use Rattle.law_stations.proofs.AnyReader.{tosses-answered}
use Rattle.law_stations.proofs.laws.tosses_answer_what_stopped_them.Goals as goal

pub returns : goal.returns
returns g c = λ honest noting. tosses-answered _ honest _ noting
