use Rattle.{echo_net.specs.Worlds.IsWorldOf, model_run.specs.Run.Run, cmd_why.proofs.Judged.NoneBefore}
use Rattle.cmd_why.proofs.judging.is_nobody.Given as goal

abbrev pub invariant-systems : goal.invariant-systems
invariant-systems l = (run : Run) → IsWorldOf l.world run → NoneBefore run l.i l.to
