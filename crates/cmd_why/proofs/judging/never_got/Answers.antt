use Rattle.{std.proofs.Common.{◌∙◌, sym, arith}, cmd_why.proofs.Judged.lacking-at}
use Rattle.cmd_why.proofs.judging.never_got.Goals as goal

pub returns : goal.returns
returns c = λ run is.
    lacking-at run c.args.system c.args.tag.now c.args.id.now c.in_ok-address.address c.in_ok-poster_at.field-0 c.args.poster
    (c.settled_runs_settle_each_area.ensures run (sym (c.settled.ensures run is) ∙ c.if-not-settled.false) c.args.tag.now)
    (c.in_ok-poster_at.ensures run is) (c.in_ok-address.ensures run is)
    (let filed = c.filed.ensures run is in let none = c.if-filed-gt0.false in omega (arith, filed, none))
