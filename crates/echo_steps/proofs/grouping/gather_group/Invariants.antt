use Rattle.std.specs.Prelude.{All}
use Rattle.echo_steps.specs.Ways.{IsWay}
use Rattle.std.proofs.Common.{◌≡◌, ◌≤◌, ◌<◌, ◌-◌, ◌++◌, drop}
use Rattle.disk_io.specs.Disk.{Honestly}
use Rattle.base_file.specs.Base.{Base}
use Rattle.base_store.specs.Store.{LooksOn}
use Rattle.echo_steps.specs.Exports.{sent_of}
use Rattle.echo_steps.proofs.grouping.gather_group.Given as goal

abbrev pub invariant-group : goal.invariant-group
invariant-group g l =
    Honestly (g.T.Store.state l.store).disk ((base : Base) → (g.T.Store.state l.fn.store).keeps base
    → l.sent.items ++ sent_of l.links (drop l.at base.messages) ≡ sent_of l.links (drop l.from base.messages))
    × LooksOn (g.T.Store.state l.fn.store) (g.T.Store.state l.store)
    × (g.T.Store.failures l.fn.store ≤ g.T.Store.failures l.store)
    × ((g.T.Store.state l.fn.store).is_sound → (g.T.Store.state l.store).is_sound)
    × (l.from < l.at)
    × (l.at ≤ l.end)
    × All (IsWay l.links) l.ways.items

abbrev pub decreases-group : goal.decreases-group
decreases-group g l = l.end - l.at
