-- The lines of the areas so far are added.
use Rattle.{std.{proofs.Common.{◌≡◌, ◌++◌, take}, specs.List.flat_map}, model_run.specs.Run.Run, echo_net.specs.Worlds.IsWorldOf}
use Rattle.cmd_why.specs.Replayed.{area_state_line}
use Rattle.cmd_why.proofs.replay_text.push_areas.Given as goal

abbrev pub invariant-areas : goal.invariant-areas
invariant-areas l = (run : Run) → IsWorldOf l.world run →
    l.lines.items ≡ l.initial.lines.items ++ flat_map (area_state_line run l.i l.file.system) (take l.k l.file.areas)
