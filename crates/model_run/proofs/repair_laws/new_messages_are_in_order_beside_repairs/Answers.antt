use Rattle.model_run.proofs.{BesideRepairs.beside-not_lost, BesideRepairs.beside-orderly, TosserLaws.the_laws}
use Rattle.model_run.proofs.repair_laws.new_messages_are_in_order_beside_repairs.Goals as goal

pub returns : goal.returns
returns c = record {
  in_order = λ first tag state tidy key area new events other.
      beside-orderly the_laws first tag state.0 state.1 tidy.joined key area new events other tidy.cycles;
  not_lost = λ first tag state joined key area new events other. beside-not_lost the_laws first tag state.0 state.1 joined key area new events other;
}
