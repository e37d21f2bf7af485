use Rattle.std.proofs.Common.{◌≡◌, map, take}
use Rattle.model_run.specs.{Event.run_event, Run.run_of, Run.start}
use Rattle.echo_net.specs.{Counts.packet_counts, Worlds.IsWorldOf, Worlds.LeadsToFirst, Worlds.own_addresses}
use Rattle.echo_net.proofs.replaying.replayed.Given as goal

-- the world is that of the events so far; the packets after each are counted; each address leads to its first system
abbrev pub invariant-events : goal.invariant-events
invariant-events g l = record {
  leads : LeadsToFirst l.receivers.first.entries (own_addresses l.world.systems);
  run : IsWorldOf l.world (run_of l.fn.files.items (map run_event (take l.event-index l.events)));
  counts : l.counts.items ≡ packet_counts (start l.fn.files.items) (map run_event (take l.event-index l.events));
}
