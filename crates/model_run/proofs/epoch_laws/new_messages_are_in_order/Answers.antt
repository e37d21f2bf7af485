use Rattle.std.proofs.Common.{arith}
use Rattle.model_run.proofs.{AnyState.new-orderly, TosserLaws.the_laws, Changes.orderly-on}
use Rattle.model_run.proofs.epoch_laws.new_messages_are_in_order.Goals as goal

pub returns-clause-here : goal.returns-clause-here
returns-clause-here c = grind (arith, new-orderly, the_laws)

pub returns-clause-later : goal.returns-clause-later
returns-clause-later c = λ first tag state tidy key area new events later named keep.
    orderly-on the_laws tag key area first state.0 state.1 tidy new events later named keep
