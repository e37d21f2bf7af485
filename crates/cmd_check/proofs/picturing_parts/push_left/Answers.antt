use Rattle.{std.proofs.Common.{◌∙◌, sym}, cmd_check.proofs.FilledParts.{alone_drawn, else_drawn}}
use Rattle.cmd_check.proofs.picturing_parts.push_left.Goals as goal

pub returns-in_ok-push_alone : goal.returns-in_ok-push_alone
returns-in_ok-push_alone c =
    alone_drawn _ c.args.left.now c.args.tag.now c.args.lines.now.items c.extend_from_slice.new.self.items c.push_alone.new.lines.items
    (sym c.is_alone.ensures ∙ c.if-is_alone.true) c.in_ok-extend_from_slice.ensures.items c.in_ok-push_alone.ensures

pub returns-in_ok-status : goal.returns-in_ok-status
returns-in_ok-status c =
    else_drawn _ c.args.left.now c.args.tag.now c.args.lines.now.items c.push_parts_picture.new.lines.items c.in_ok-status.status
    (sym c.is_alone.ensures ∙ c.if-is_alone.false) c.in_ok-status.ensures
