use Rattle.std.proofs.Common.{arith}
use Rattle.echo_links.proofs.LinkAnswers.{link_only}
use Rattle.echo_links.proofs.link_file.LinkFile.read.Goals as goal

pub returns-clause-only : goal.returns-clause-only
returns-clause-only c = grind (arith, link_only)
