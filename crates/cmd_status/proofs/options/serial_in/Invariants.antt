use Rattle.echo_text.proofs.Serials.{Valued}
use Rattle.cmd_status.proofs.options.serial_in.Given as goal

abbrev pub invariant-digits : goal.invariant-digits
invariant-digits l = Valued l.digits l.digit-index l.value
