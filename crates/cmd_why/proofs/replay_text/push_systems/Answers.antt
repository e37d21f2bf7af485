use Rattle.{std.proofs.Common.arith, cmd_why.proofs.WorldLines.systems_more}
use Rattle.cmd_why.proofs.replay_text.push_systems.Goals as goal

pub systems-preserved : goal.systems-preserved
systems-preserved c = λ run is many.
    systems_more run c.systems.i c.args.lines.now.items c.systems.lines.items c.push_system.new.lines.items (omega (arith, c.systems-test.true, many))
    (c.in_ok-push_system.ensures run is) (c.systems.invariant run is many)
