use Rattle.echo_addr.proofs.Outcomes.{AddressOf-address_text}
use Rattle.echo_addr.proofs.laws.address_read_back.Goals as goal

pub returns : goal.returns
returns c = AddressOf-address_text
