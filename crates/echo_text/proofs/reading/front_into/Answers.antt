use Rattle.std.proofs.Common.{◌∙◌, arith}
use Rattle.echo_text.proofs.SaidAfter.{fails, front_is, refusal_is}
use Rattle.echo_text.proofs.reading.front_into.Goals as goal

pub returns-in_err-raw : goal.returns-in_err-raw
returns-in_err-raw c = grind (arith, fails, refusal_is)

pub returns-in_err-tag : goal.returns-in_err-tag
returns-in_err-tag c = grind (arith, fails, refusal_is)

pub returns : goal.returns
returns c =
    front_is c.args.text.now c.split_line.result.0.now c.split_line.result.1.now _ _ _ _ c.split_line.ensures.first c.split_line.ensures.later
    c.in_ok-raw.ensures.refused (c.new.ensures ∙ c.in_ok-tag.ensures ∙ c.in_ok-raw.ensures.tag) c.split_tail.ensures.body c.split_tail.ensures.tail c.new-2.ensures
