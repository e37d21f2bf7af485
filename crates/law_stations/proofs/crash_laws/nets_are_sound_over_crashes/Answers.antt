use Rattle.law_stations.proofs.Shown.{sound-over-crashes}
use Rattle.law_stations.proofs.crash_laws.nets_are_sound_over_crashes.Goals as goal

pub returns : goal.returns
returns c = sound-over-crashes
