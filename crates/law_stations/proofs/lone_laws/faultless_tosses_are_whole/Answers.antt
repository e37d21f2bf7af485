use Rattle.law_stations.proofs.Tosses.{faultless-whole}
use Rattle.law_stations.proofs.lone_laws.faultless_tosses_are_whole.Goals as goal

pub returns : goal.returns
returns c = faultless-whole
