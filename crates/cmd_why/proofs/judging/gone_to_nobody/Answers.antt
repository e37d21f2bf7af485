use Rattle.{std.proofs.Common.arith, cmd_why.proofs.Judged.to_nobody}
use Rattle.cmd_why.proofs.judging.gone_to_nobody.Goals as goal

pub returns : goal.returns
returns c = λ run is.
    to_nobody run c.args.tag.now c.args.id.now c.args.to (c.is_nobody.ensures c.if-not-is_nobody.false run is)
    (let times = c.in_ok-times.ensures run is in let some = c.if-times-lt1.false in omega (arith, times, some))
