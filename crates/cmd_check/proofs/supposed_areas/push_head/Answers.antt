use Rattle.{std.{proofs.Common.{◌∙◌, sym}, specs.Option.option_copied}, cmd_check.proofs.Judgements.{alone_pushed, verdict_pushed}}
use Rattle.cmd_check.proofs.supposed_areas.push_head.Goals as goal

pub returns-in_ok-push_alone-clause-lines : goal.returns-in_ok-push_alone-clause-lines
returns-in_ok-push_alone-clause-lines c =
    alone_pushed _ c.args.net.left.now (option_copied c.args.judging.list) c.args.judging.more c.args.tag.now c.args.lines.now.items c.push_alone.new.lines.items
    (sym c.is_alone.ensures ∙ c.if-is_alone.true) c.in_ok-push_alone.ensures

pub returns-in_ok-noes-clause-lines : goal.returns-in_ok-noes-clause-lines
returns-in_ok-noes-clause-lines c =
    verdict_pushed _ c.args.net.left.now (option_copied c.args.judging.list) c.args.judging.more c.args.tag.now c.in_ok-noes.noes c.args.lines.now.items c.push_verdict_left.new.lines.items
    (sym c.is_alone.ensures ∙ c.if-is_alone.false) c.in_ok-noes.ensures.lines
