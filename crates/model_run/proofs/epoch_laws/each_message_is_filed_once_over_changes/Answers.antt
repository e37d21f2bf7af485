use Rattle.model_run.{specs.Epochs.after_epochs, proofs.{TosserLaws.the_laws, Bases.filed-once, Renewal.epochs-ok}}
use Rattle.model_run.proofs.epoch_laws.each_message_is_filed_once_over_changes.Goals as goal

pub returns : goal.returns
returns c = λ first state later fit s h key. filed-once (after_epochs first later) (epochs-ok the_laws later first fit state.0) s h key
