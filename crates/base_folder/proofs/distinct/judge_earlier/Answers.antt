use Rattle.{std.{proofs.Common.{◌∙◌, ◌<◌, Option, sym, ap, arith}, specs.Prelude.option_map}, echo_filed.specs.Filed.{Filed, key_of}}
use Rattle.base_folder.proofs.Distincts.{HasKeyAt, one_key}
use Rattle.base_folder.proofs.distinct.judge_earlier.Goals as goal

pub returns-then-branch-clause-fetched : goal.returns-then-branch-clause-fetched
returns-then-branch-clause-fetched g c = λ honest base holds second.
    let i = c.earlier.i in
    let key = c.args.key.now in
    let here = c.at_hand.ensures ∙ c.in_ok-fetch.ensures.fetched honest base (c.earlier.invariant.looks.holds base holds) in
    let first : HasKeyAt base.messages i key = ap (λ (o : Option Filed). option_map key_of o) (sym here) ∙ c.in_ok-has_key.ensures c.if-branch.true in
    let less : i < c.args.place = omega (arith, c.earlier-test.true, c.min-before.ensures) in
    one_key base.messages base.cursor i c.args.place key (c.count.ensures.base base holds) less first second
