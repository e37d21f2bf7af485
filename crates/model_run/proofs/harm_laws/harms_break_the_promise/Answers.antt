use Rattle.model_run.proofs.Faults.{harm_breaks}
use Rattle.model_run.proofs.harm_laws.harms_break_the_promise.Goals as goal

pub returns : goal.returns
returns c = harm_breaks
