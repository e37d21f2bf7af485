use Rattle.echo_packet.proofs.Headers.{header_of-header_bytes, header_bytes-header_of}
use Rattle.echo_packet.proofs.laws.header_laws.Goals as goal

pub returns-clause-given_back : goal.returns-clause-given_back
returns-clause-given_back c = header_of-header_bytes

pub returns-clause-written_again : goal.returns-clause-written_again
returns-clause-written_again c = header_bytes-header_of
