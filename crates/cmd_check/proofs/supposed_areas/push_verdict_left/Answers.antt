use Rattle.{std.specs.Option.option_copied, cmd_check.proofs.AllAreas.area_checked}
use Rattle.cmd_check.proofs.supposed_areas.push_verdict_left.Goals as goal

pub returns-clause-lines : goal.returns-clause-lines
returns-clause-lines c =
    let found = c.in_ok-verdict.ensures in
    area_checked c.args.left.now (option_copied c.args.judging.list) c.args.judging.more c.args.tag.now c.in_ok-verdict.verdict c.no_count.result c.args.lines.now.items c.push_check.new.lines.items
    (record { tidy = found.tidy; counted = found.counted; first = found.first }) found.orderly c.no_count.ensures.value c.in_ok-push_check.ensures
