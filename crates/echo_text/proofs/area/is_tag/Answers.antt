use Rattle.std.proofs.{Common.arith, lemmas.Bool.eqb-false}
use Rattle.echo_text.proofs.Tags.{tag_by_bytes}
use Rattle.echo_text.proofs.area.is_tag.Goals as goal

pub returns : goal.returns
returns c = grind (arith, eqb-false, tag_by_bytes)
