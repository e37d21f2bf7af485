use Rattle.std.proofs.{Common.arith, lemmas.List.append-nil}
use Rattle.echo_verdict.proofs.Collected.{links_found}
use Rattle.echo_verdict.proofs.area.take_file.Goals as goal

pub returns-in_ok-push-in-Some-clause-links : goal.returns-in_ok-push-in-Some-clause-links
returns-in_ok-push-in-Some-clause-links = grind (arith, links_found)

pub returns-in-None-clause-links : goal.returns-in-None-clause-links
returns-in-None-clause-links = grind (arith, links_found, append-nil)
