use Rattle.cmd_repair.proofs.Rests.{all-rest, listed-rest}
use Rattle.cmd_repair.proofs.laws.repairs_send_the_rest.Goals as goal

pub returns-clause-all : goal.returns-clause-all
returns-clause-all c = λ file stamp area to base old new counted sends. all-rest file stamp area to base old new counted sends

pub returns-clause-listed : goal.returns-clause-listed
returns-clause-listed c = λ file stamp area to base old new counted list words ids lists is small sends. listed-rest file stamp area to base old new counted list words ids lists is small sends
