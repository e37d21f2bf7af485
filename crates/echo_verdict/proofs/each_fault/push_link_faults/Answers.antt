use Rattle.std.proofs.{Common.arith, lemmas.Result.on_ok_weaker}
use Rattle.echo_verdict.proofs.{AllFaults.four, Drawings.links_in_order}
use Rattle.echo_verdict.proofs.each_fault.push_link_faults.Goals as goal

pub returns : goal.returns
returns c = grind (arith, on_ok_weaker, links_in_order, four)
