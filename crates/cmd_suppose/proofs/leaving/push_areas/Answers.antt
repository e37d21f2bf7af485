use Rattle.{std.proofs.Common.arith, cmd_suppose.specs.Leaving.area_left, cmd_status.proofs.Lines.flat_more}
use Rattle.cmd_suppose.proofs.leaving.push_areas.Goals as goal

pub areas-preserved : goal.areas-preserved
areas-preserved c =
    flat_more (area_left c.args.out.now c.args.file.now) c.args.file.now.areas c.areas.k c.args.text.now.items c.areas.text.items c.push_area_left.new.text.items
    (omega (arith, c.areas-test.true, c.areas-k-end.ensures)) c.in_ok-push_area_left.ensures c.areas.invariant
