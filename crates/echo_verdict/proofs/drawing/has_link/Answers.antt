use Rattle.echo_verdict.proofs.Drawings.{link_reported}
use Rattle.echo_verdict.proofs.drawing.has_link.Goals as goal

pub returns : goal.returns
returns c = link_reported c.args.all.now c.args.link c.holds.result c.holds.ensures
