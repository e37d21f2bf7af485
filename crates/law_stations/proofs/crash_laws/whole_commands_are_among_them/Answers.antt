use Rattle.law_stations.{specs.Nets.first_net, proofs.Whole.whole-all}
use Rattle.law_stations.proofs.crash_laws.whole_commands_are_among_them.Goals as goal

pub returns : goal.returns
returns c = λ links commands net happen. whole-all commands (first_net links) net happen
