use Rattle.{std.proofs.Common.{◌≡◌, ◌++◌, drop}, echo_filed.specs.declared.key.Key.TheVariants.ById, echo_net.specs.Worlds.IsWorldOf}
use Rattle.{model_run.specs.Run.Run, cmd_why.specs.Carrying.crossings_from}
use Rattle.cmd_why.proofs.carrying.crossings_to.Given as goal

abbrev pub invariant-packets : goal.invariant-packets
invariant-packets l = (run : Run) → IsWorldOf l.world run →
    l.all.items ++ crossings_from l.counts l.harmed.to (ById l.harmed.tag.now l.harmed.id.now) l.k (drop l.k run.packets) ≡ crossings_from l.counts l.harmed.to (ById l.harmed.tag.now l.harmed.id.now) 0 run.packets
