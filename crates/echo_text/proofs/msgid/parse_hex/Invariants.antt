use Rattle.echo_text.proofs.Serials.{Valued}
use Rattle.echo_text.proofs.msgid.parse_hex.Given as goal

abbrev pub invariant-digits : goal.invariant-digits
invariant-digits l = Valued l.digits l.digit-index l.value
