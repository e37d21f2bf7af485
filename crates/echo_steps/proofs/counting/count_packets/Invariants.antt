use Rattle.std.proofs.Common.{◌≡◌, ◌≤◌, ◌-◌, ◌++◌, List, length, drop, map}
use Rattle.disk_io.specs.Disk.{Honestly}
use Rattle.base_file.specs.Base.{Base}
use Rattle.base_store.specs.Store.{LooksOn}
use Rattle.echo_steps.specs.{Counts.counted_to, Counts.link_set, Exports.OutgoingMessage, Exports.sent_of}
use Rattle.echo_steps.proofs.counting.count_packets.Given as goal

abbrev pub invariant-groups : goal.invariant-groups
invariant-groups g l =
    Honestly (g.T.Store.state l.store).disk ((base : Base) → (g.T.Store.state l.fn.store).keeps base
    → (l.end ≡ length base.messages)
    × ((sent : List OutgoingMessage) × (l.counts.items ≡ map (counted_to sent) (link_set l.links))
    × (sent ++ sent_of l.links (drop l.at base.messages) ≡ sent_of l.links (drop l.from base.messages))))
    × LooksOn (g.T.Store.state l.fn.store) (g.T.Store.state l.store)
    × (g.T.Store.failures l.fn.store ≤ g.T.Store.failures l.store)
    × ((g.T.Store.state l.fn.store).is_sound → (g.T.Store.state l.store).is_sound)

abbrev pub decreases-groups : goal.decreases-groups
decreases-groups g l = l.end - l.at
