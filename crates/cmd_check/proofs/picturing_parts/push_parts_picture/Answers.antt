use Rattle.cmd_check.proofs.FilledParts.{parts_drawn}
use Rattle.cmd_check.proofs.picturing_parts.push_parts_picture.Goals as goal

pub returns : goal.returns
returns c =
    let found = c.in_ok-verdict.ensures in
    parts_drawn c.args.left.now c.args.tag.now c.in_ok-verdict.verdict c.in_ok-drawing.drawing c.in_ok-cut.cut.items c.in_ok-front.front.items c.args.lines.now.items
    c.extend_from_slice.new.self.items c.push_filled.new.lines.items c.extend_from_slice-2.new.self.items c.check_status.result
    (record { tidy = found.tidy; counted = found.counted; first = found.first }) c.in_ok-drawing.ensures c.in_ok-cut.ensures c.in_ok-front.ensures
    (rw c.deref.ensures.value at c.in_ok-extend_from_slice.ensures.items) (rw c.deref-2.ensures.value at c.in_ok-push_filled.ensures) c.in_ok-extend_from_slice-2.ensures.items c.check_status.ensures
