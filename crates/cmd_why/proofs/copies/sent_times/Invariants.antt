use Rattle.{std.proofs.Common.{◌≡◌, take}, echo_filed.specs.declared.key.Key.TheVariants.ById, echo_net.specs.Worlds.IsWorldOf}
use Rattle.model_run.specs.{Orderly.sent_count, Run.Run}
use Rattle.cmd_why.proofs.copies.sent_times.Given as goal

abbrev pub invariant-packets : goal.invariant-packets
invariant-packets l = (run : Run) → IsWorldOf l.world run → l.times ≡ sent_count l.to (ById l.tag l.id) (take l.k run.packets)
