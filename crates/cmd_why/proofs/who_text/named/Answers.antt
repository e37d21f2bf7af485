use Rattle.{std.specs.Option.option_copied, cmd_why.proofs.Reasons.were_named}
use Rattle.cmd_why.proofs.who_text.named.Goals as goal

pub returns : goal.returns
returns c =
    were_named c.args.verdict.now (option_copied c.args.found) _ _ c.in_ok-systems.ensures c.put_in_order.ensures.ascending c.put_in_order.ensures.members
