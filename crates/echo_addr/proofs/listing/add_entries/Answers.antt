use Rattle.std.proofs.Common.{take_all, arith}
use Rattle.echo_addr.proofs.Carrying.{Read-none}
use Rattle.echo_addr.proofs.listing.add_entries.Goals as goal

pub tokens-init : goal.tokens-init
tokens-init c = grind (arith, take_all, Read-none)
