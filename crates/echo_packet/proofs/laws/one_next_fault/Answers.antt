use Rattle.echo_packet.proofs.Verdicts.{one_fault}
use Rattle.echo_packet.proofs.laws.one_next_fault.Goals as goal

pub returns : goal.returns
returns c = one_fault
