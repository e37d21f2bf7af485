use Rattle.echo_verdict.proofs.Drawings.{address_reported}
use Rattle.echo_verdict.proofs.drawing.has_address.Goals as goal

pub returns : goal.returns
returns c = address_reported c.args.all.now c.args.address c.holds.result c.holds.ensures
