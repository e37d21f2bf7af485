use Rattle.model_run.proofs.{AnyState.new-not_lost, TosserLaws.the_laws}
use Rattle.model_run.proofs.epoch_laws.cycles_lose_nothing.Goals as goal

pub returns : goal.returns
returns c = λ first tag state joined key area new events. new-not_lost the_laws first tag state.0 state.1 joined key area new events
