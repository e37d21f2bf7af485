use Rattle.{std.proofs.Common.arith, cmd_why.specs.Replayed.area_state_line, cmd_status.proofs.Lines.flat_more}
use Rattle.cmd_why.proofs.replay_text.push_areas.Goals as goal

pub areas-preserved : goal.areas-preserved
areas-preserved c = λ run is.
    flat_more (area_state_line run c.args.i c.args.file.now.system) c.args.file.now.areas c.areas.k c.args.lines.now.items c.areas.lines.items c.push_area.new.lines.items
    (omega (arith, c.areas-test.true, c.areas-k-end.ensures)) (c.in_ok-push_area.ensures run is) (c.areas.invariant run is)
