use Rattle.model_run.proofs.{TosserLaws.the_laws, Renewal.epochs-outlive}
use Rattle.model_run.proofs.epoch_laws.what_is_filed_stays_over_changes.Goals as goal

pub returns : goal.returns
returns c = λ first state later named s h. (epochs-outlive the_laws first state.0 later named).later s h
