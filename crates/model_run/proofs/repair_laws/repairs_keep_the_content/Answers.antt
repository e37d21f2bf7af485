use Rattle.model_run.proofs.{Saying.all-say, TosserLaws.the_laws}
use Rattle.model_run.proofs.repair_laws.repairs_keep_the_content.Goals as goal

pub returns : goal.returns
returns c = λ before state key content events calm other say. all-say the_laws before state.0 key content events calm other say
