use Rattle.{std.proofs.Common.length, cmd_check.proofs.Judgements.{none_cut, some_cut}, cmd_suppose.proofs.Leftovers.{empty_none, full_some}}
use Rattle.cmd_check.proofs.supposed_areas.push_cut.Goals as goal

pub returns-then-is_empty : goal.returns-then-is_empty
returns-then-is_empty c =
    none_cut c.args.out.now c.args.left.now c.args.tag.now c.args.lines.now.items (empty_none (length c.args.out.now) c.is_empty.result c.is_empty.ensures c.if-is_empty.true)

pub returns-in_ok-push_parts : goal.returns-in_ok-push_parts
returns-in_ok-push_parts c =
    some_cut c.args.out.now c.args.left.now c.args.tag.now c.in_ok-cut.cut.items c.args.lines.now.items c.push_parts.new.lines.items
    (full_some (length c.args.out.now) c.is_empty.result c.is_empty.ensures c.if-is_empty.false) c.in_ok-cut.ensures (rw c.deref.ensures.value at c.in_ok-push_parts.ensures)
