use Rattle.cmd_why.proofs.Judged.{posted-at}
use Rattle.cmd_why.proofs.judging.poster_at.Goals as goal

pub returns : goal.returns
returns c = λ run is.
    posted-at run c.args.i c.args.tag.now c.args.id.now c.in_ok-address.address c.in_ok-message.message.now (c.in_ok-address.ensures run is)
    (c.in_ok-message.ensures run is)
    (c.is_posting.ensures c.if-not-is_posting.false)
