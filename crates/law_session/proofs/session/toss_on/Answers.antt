use Rattle.std.proofs.Common.{ℕ, List, map, subst}
use Rattle.std.specs.Borrow.{Bor}
use Rattle.cmd_store.specs.Coming.{Holds}
use Rattle.disk_memory.specs.Memory.{changes_of, disk_after}
use Rattle.law_stations.specs.OnDisks.{TossesAsMay}
use Rattle.law_session.proofs.session.toss_on.Goals as goal

pub returns : goal.returns
returns g c =
    let left = map (λ (packet : Bor (List ℕ)). Holds packet.now) c.toss_as_may.new.command.packets.now in (
      left,
      subst (λ (packets : Bor (List (Bor (List ℕ)))).
          TossesAsMay (map (λ (packet : Bor (List ℕ)). Holds packet.now) packets.now) left (g.P.OpenStation.place c.args.station) (g.P.OpenStation.reads c.args.station (disk_after (changes_of c.args.disk)))
          (disk_after (changes_of c.args.disk)) (disk_after (changes_of c.toss_as_may.result.disk)) c.toss_as_may.result.done)
          c.new-command.ensures.packets (c.toss_as_may.ensures.does tt tt),
    )
