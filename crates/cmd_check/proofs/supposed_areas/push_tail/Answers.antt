use Rattle.cmd_check.{specs.JudgedAreas.judged_net, proofs.Judgements.tail_pushed}
use Rattle.cmd_check.proofs.supposed_areas.push_tail.Goals as goal

pub returns : goal.returns
returns c = λ given listing.
    tail_pushed (judged_net given c.args.net.whole.now c.args.net.left.now c.args.net.assumed.now c.args.net.out.now) c.args.listed c.args.tag.now c.in_ok-here.here.items c.in_ok-unseen.unseen.items
    c.args.lines.now.items c.push_assumed_lines.new.lines.items c.push_unseen_line.new.lines.items c.push_cut.new.lines.items c.push_without.new.lines.items
    (c.in_ok-here.ensures given c.args.tag.now listing) (rw c.deref.ensures.value at c.in_ok-unseen.ensures) (rw c.deref-2.ensures.value at c.in_ok-push_assumed_lines.ensures)
    (rw c.deref-3.ensures.value at c.in_ok-push_unseen_line.ensures) c.in_ok-push_cut.ensures c.in_ok-push_without.ensures
