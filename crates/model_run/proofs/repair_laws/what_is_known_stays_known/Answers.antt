use Rattle.model_run.proofs.{BesideRepairs.still-knows, TosserLaws.the_laws}
use Rattle.model_run.proofs.repair_laws.what_is_known_stays_known.Goals as goal

pub returns : goal.returns
returns c = λ before state differ events s h key is z j at. still-knows the_laws before state.0 differ events s h key is z j at
