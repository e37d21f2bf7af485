use Rattle.std.proofs.{Common.arith, Common.sym, lemmas.List.length-take-le, lemmas.List.take_all}
use Rattle.cmd_store.proofs.answering.front.Goals as goal

pub slice_bounds-result-end : goal.slice_bounds-result-end
slice_bounds-result-end c = sym (length-take-le 67 c.args.subject.now (omega arith))

pub returns-else-subject-gt-ROOM_BEHIND : goal.returns-else-subject-gt-ROOM_BEHIND
returns-else-subject-gt-ROOM_BEHIND c = sym (take_all 67 c.args.subject.now c.if-subject-gt-ROOM_BEHIND.false)
