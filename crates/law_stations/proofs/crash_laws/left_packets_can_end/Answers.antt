use Rattle.{std.proofs.Common.[], law_stations.proofs.Ended.can-end}
use Rattle.law_stations.proofs.crash_laws.left_packets_can_end.Goals as goal

pub returns : goal.returns
returns c = λ i d cursor has. can-end i cursor d.staging [] d.net (λ file is. absurd is) has
