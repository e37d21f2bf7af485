use Rattle.model_run.proofs.Telling.{reported-plainly}
use Rattle.model_run.proofs.tosser_laws.plain_telling_is_enough.Goals as goal

pub returns : goal.returns
returns g c = λ net tidy m to x seen link plain. reported-plainly net tidy.joined m to x seen link plain
