use Rattle.echo_steps.proofs.WholePackets.{packet_refused, packet_taken, whole_packet}
use Rattle.echo_steps.proofs.laws.packet_laws.Goals as goal

pub returns-clause-whole : goal.returns-clause-whole
returns-clause-whole c = whole_packet

pub returns-clause-taken : goal.returns-clause-taken
returns-clause-taken c = packet_taken

pub returns-clause-refused : goal.returns-clause-refused
returns-clause-refused c = packet_refused
