use Rattle.{std.proofs.Common.arith, cmd_why.proofs.Judged.own-at}
use Rattle.cmd_why.proofs.judging.sent_own.Goals as goal

pub returns : goal.returns
returns c = λ run is.
    own-at run c.args.poster c.args.tag.now c.args.id.now c.in-Some.address (c.in-Some.ensures run is)
    (let times = c.in_ok-times.ensures run is in let some = c.if-times-lt1.false in omega (arith, times, some))
