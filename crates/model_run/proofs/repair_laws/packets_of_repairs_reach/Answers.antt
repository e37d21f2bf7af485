use Rattle.model_run.proofs.{Reaching.reached, TosserLaws.the_laws}
use Rattle.model_run.proofs.repair_laws.packets_of_repairs_reach.Goals as goal

pub returns : goal.returns
returns c = λ tag before state differ old were earlier later calm i x y at held stamp came right.
    reached the_laws tag before differ state old were earlier later calm i x y at held stamp came right
