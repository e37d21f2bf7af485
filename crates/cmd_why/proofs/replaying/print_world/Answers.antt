use Rattle.{std.proofs.{Common.arith, lemmas.Result.err_from_is_err_and}, cmd_why.proofs.Replays.world_alone}
use Rattle.cmd_why.proofs.replaying.print_world.Goals as goal

pub returns-in_err-print_rest : goal.returns-in_err-print_rest
returns-in_err-print_rest g c = grind (arith, err_from_is_err_and, world_alone)

pub returns : goal.returns
returns g c = grind (arith, world_alone)
