use Rattle.{std.specs.Option.option_copied, cmd_check.{specs.JudgedAreas.judged_net, proofs.Judgements.area_judged}}
use Rattle.cmd_check.proofs.supposed_areas.push_area.Goals as goal

pub returns-clause-lines : goal.returns-clause-lines
returns-clause-lines c = λ given listing.
    area_judged (judged_net given c.args.net.whole.now c.args.net.left.now c.args.net.assumed.now c.args.net.out.now) (option_copied c.args.judging.list) c.args.judging.more c.args.judging.listed
    c.args.tag.now c.in_ok-noes.noes c.args.lines.now.items c.push_head.new.lines.items c.push_tail.new.lines.items c.in_ok-noes.ensures.lines (c.in_ok-push_tail.ensures given listing)
