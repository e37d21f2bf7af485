use Rattle.{std.proofs.Common.{arith, refl}, cmd_check.proofs.FilledParts.next_filled}
use Rattle.cmd_check.proofs.picturing_parts.push_filled.Goals as goal

pub parts-preserved : goal.parts-preserved
parts-preserved c =
    next_filled c.args.cut.now c.parts.place c.index-cut-place.result c.as_slice.result.now _ c.args.lines.now.items c.parts.lines.items c.push_filled_part.new.lines.items
    (omega (arith, c.parts-test.true)) c.index-cut-place.is c.as_slice.ensures refl c.parts.invariant c.in_ok-push_filled_part.ensures
