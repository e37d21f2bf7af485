use Rattle.echo_net.proofs.Numbers.{Digested}
use Rattle.echo_net.proofs.script.number.Given as goal

abbrev pub invariant-loop-byte : goal.invariant-loop-byte
invariant-loop-byte l = Digested l.radix l.digits l.byte-index l.value
