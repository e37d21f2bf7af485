use Rattle.model_run.proofs.{TosserLaws.the_laws, Changes.settled-stays}
use Rattle.model_run.proofs.epoch_laws.what_has_settled_stays.Goals as goal

pub returns : goal.returns
returns c = λ first tag state tidy key area new events settled f at_f posting in_f own is later named.
    settled-stays the_laws tag key area first state.0 state.1 tidy.joined new events settled f at_f posting in_f own is later named
