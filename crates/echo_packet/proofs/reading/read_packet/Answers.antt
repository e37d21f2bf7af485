use Rattle.echo_packet.proofs.Outcome.{answers-one}
use Rattle.echo_packet.proofs.reading.read_packet.Goals as goal

pub returns-clause-only : goal.returns-clause-only
returns-clause-only c = λ other d. answers-one c.args.limits c.args.bytes.now _ other c.read_messages.ensures d
