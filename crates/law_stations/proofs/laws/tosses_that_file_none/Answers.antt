use Rattle.law_stations.proofs.Tallied.{tosses-file-none}
use Rattle.law_stations.proofs.laws.tosses_that_file_none.Goals as goal

pub returns : goal.returns
returns c = tosses-file-none
