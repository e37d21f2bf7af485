use Rattle.echo_addr.proofs.CappedNumbers.{Digested}
use Rattle.echo_addr.proofs.digits.number.Given as goal

abbrev pub invariant-loop-byte : goal.invariant-loop-byte
invariant-loop-byte l = Digested l.cap l.digits l.byte-index l.value
