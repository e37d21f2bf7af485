use Rattle.echo_addr.proofs.ReadBack.{read_back}
use Rattle.echo_addr.proofs.laws.written_lines_read_back.Goals as goal

pub returns : goal.returns
returns c = read_back
