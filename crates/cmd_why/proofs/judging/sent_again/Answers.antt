use Rattle.{std.proofs.Common.sym, cmd_why.proofs.Judged.again-at}
use Rattle.cmd_why.proofs.judging.sent_again.Goals as goal

pub returns : goal.returns
returns c = λ run is.
    again-at run c.args.system c.args.tag.now c.args.id.now c.in-Some.address c.in_ok-times.times (c.in-Some.ensures run is)
    (sym (c.in_ok-times.ensures run is)) c.if-times-lt2.false
