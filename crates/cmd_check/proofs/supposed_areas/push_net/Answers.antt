use Rattle.{std.{proofs.Common.refl, specs.Option.option_copied}, cmd_check.{specs.JudgedAreas.judged_net, proofs.Judgements.net_pushed}}
use Rattle.cmd_check.proofs.supposed_areas.push_net.Goals as goal

pub returns : goal.returns
returns c = λ given are.
    net_pushed (judged_net given c.args.net.whole.now c.args.net.left.now c.args.net.assumed.now c.args.net.out.now) (option_copied c.args.judging.list) c.args.judging.more c.args.judging.listed
    c.args.areas.tags.now _ c.count_alone-alone.result c.in_ok-noes.noes c.is_counted.result c.args.lines.now.items c.push_areas.new.lines.items c.push_count.new.lines.items
    (c.in_ok-noes.ensures.lines given are) c.is_counted.ensures refl c.count_alone-alone.ensures c.in_ok-push_count.ensures
