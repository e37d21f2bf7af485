use Rattle.law_stations.proofs.Sound.{nets-are-sound}
use Rattle.law_stations.proofs.laws.nets_are_sound.Goals as goal

pub returns : goal.returns
returns c = nets-are-sound
