use Rattle.base_file.proofs.Pieces.{next_judged}
use Rattle.base_file.proofs.piece.judge_next.Goals as goal

pub returns-in-Ok : goal.returns-in-Ok
returns-in-Ok c =
    let read = c.in-Ok.ensures.read in
    next_judged c.args.head.version c.args.head.cursor c.args.place c.args.bytes.now _ c.in-Ok.stored c.judge_one.result read.0 read.1 c.judge_one.ensures
