-- The lines of the systems so far are added.
use Rattle.{std.proofs.Common.{◌≡◌, ◌++◌, take, map, length}, model_run.specs.Run.{Run, System}, echo_net.specs.Worlds.IsWorldOf}
use Rattle.cmd_why.specs.Replayed.{systems_from}
use Rattle.cmd_why.proofs.replay_text.push_systems.Given as goal

abbrev pub invariant-systems : goal.invariant-systems
invariant-systems l = (run : Run) → IsWorldOf l.world run → length run.systems ≡ l.fn.systems →
    l.lines.items ≡ l.initial.lines.items ++ systems_from run 0 (take l.i (map (λ (s : System). s.file) run.systems))
