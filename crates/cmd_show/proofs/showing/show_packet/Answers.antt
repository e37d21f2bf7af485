use Rattle.{std.proofs.{Common.{length, ap, arith}, lemmas.Result.err_from_is_err_and}, cmd_show.proofs.Printed.{front_refused, never_read}}
use Rattle.cmd_show.proofs.showing.show_packet.Goals as goal

pub returns-in_err-reader : goal.returns-in_err-reader
returns-in_err-reader g c = grind (arith, err_from_is_err_and, front_refused, never_read)

pub show_opened-requires-clause-room : goal.show_opened-requires-clause-room
show_opened-requires-clause-room g c = omega (arith, ap length c.in_ok-reader.ensures.taken)

pub returns : goal.returns
returns g c = grind arith
