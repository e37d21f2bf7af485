use Rattle.std.proofs.{Common.arith, lemmas.List.take_all}
use Rattle.echo_nodelist.specs.Written.{nodelist_text}
use Rattle.echo_nodelist.proofs.writing.nodelist_text.Goals as goal

pub returns : goal.returns
unfolding nodelist_text
returns c = grind (arith, take_all)
