use Rattle.std.proofs.Common.{reverse}
use Rattle.echo_nodelist.proofs.LookingBack.{follows_more}
use Rattle.echo_nodelist.proofs.reading.LocatedLines.push.Goals as goal

pub returns-clause-step : goal.returns-clause-step
returns-clause-step c =
    let located = c.in_ok-located.ensures (reverse c.args.self.now.lines.items) c.requires.stands in
    let more =
    follows_more c.args.self.now.lines.items c.args.self.now.addresses.items c.args.self.now.place c.args.line
    c.in_ok-located.located c.requires located.1
    in
    rw (c.in_ok-push.ensures.items, c.in_ok-push-2.ensures.items) more
