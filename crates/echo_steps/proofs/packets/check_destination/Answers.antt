use Rattle.std.proofs.{Common.arith, lemmas.Result.err_from_is_err_and}
use Rattle.echo_steps.proofs.PacketTosses.{unopened}
use Rattle.echo_steps.proofs.packets.check_destination.Goals as goal

pub returns-in_err-header-clause-front : goal.returns-in_err-header-clause-front
returns-in_err-header-clause-front g c = grind (arith, err_from_is_err_and, unopened)
