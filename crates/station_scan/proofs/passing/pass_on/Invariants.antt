-- The packets of the messages so far were counted and written, and the store holds what it held.
use Rattle.{std.proofs.Common.{◌≡◌, ◌≤◌, ◌-◌, length}, disk_io.specs.Disk.Honestly, base_file.specs.Base.Base, station_scan.proofs.Passes.IsPassing}
use Rattle.station_scan.proofs.passing.pass_on.Given as goal

abbrev pub invariant-groups : goal.invariant-groups
invariant-groups g l = record {
  passing : IsPassing (g.P.Paths.OwnPaths.is_own l.paths) l.sending (g.P.Kept.Store.state l.fn.store.store) (g.P.Kept.Store.state l.store.store) l.packets.items l.at;
  count : Honestly (g.P.Kept.Store.state l.store.store).disk ((base : Base) → (g.P.Kept.Store.state l.store.store).keeps base → l.end ≡ length base.messages);
  sound : (g.P.Kept.Store.state l.fn.store.store).is_sound → (g.P.Kept.Store.state l.store.store).is_sound;
  later : g.P.Kept.Store.failures l.fn.store.store ≤ g.P.Kept.Store.failures l.store.store;
}

abbrev pub decreases-groups : goal.decreases-groups
decreases-groups g l = 18446744073709551616 - l.at
