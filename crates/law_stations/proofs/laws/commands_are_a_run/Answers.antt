use Rattle.law_stations.proofs.EachEvent.{events-are-a-run}
use Rattle.law_stations.proofs.laws.commands_are_a_run.Goals as goal

pub returns : goal.returns
returns c = events-are-a-run
