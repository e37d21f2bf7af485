use Rattle.model_run.proofs.{TosserLaws.the_laws, States.any-state}
use Rattle.model_run.proofs.epoch_laws.any_bases_are_a_state.Goals as goal

pub returns : goal.returns
returns c = any-state the_laws
