use Rattle.{std.proofs.Common.{◌≡◌, map, take}, model_run.specs.Event.run_event, cmd_why.specs.Shown.posting_and_moves}
use Rattle.cmd_why.proofs.events.events_of.Given as goal

abbrev pub invariant-moves : goal.invariant-moves
invariant-moves l = map run_event l.events.items ≡ posting_and_moves l.poster l.tag (take l.one-index l.moves)
