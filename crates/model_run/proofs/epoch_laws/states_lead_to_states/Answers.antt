use Rattle.model_run.proofs.{TosserLaws.the_laws, States.changed-state, States.first-state, States.later-state}
use Rattle.model_run.proofs.epoch_laws.states_lead_to_states.Goals as goal

pub returns : goal.returns
returns c = record {
  first = first-state the_laws;
  events = λ run state events. later-state the_laws events run state;
  changes = λ run state files fit. changed-state the_laws run files fit state;
}
