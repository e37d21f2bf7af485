use Rattle.model_run.proofs.{TosserLaws.the_laws, LaterSystems.run-last}
use Rattle.model_run.proofs.laws.what_is_filed_stays.Goals as goal

pub returns : goal.returns
returns c = run-last the_laws
