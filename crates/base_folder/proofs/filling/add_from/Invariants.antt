use Rattle.{std.proofs.Common.{◌≤◌, ◌-◌, ℕ, Ok}, disk_io.specs.Disk.Honestly, base_file.specs.Base.Base, base_folder_store.specs.Opened.held_by}
use Rattle.base_folder.specs.Filled.{FillsOnly, HoldsFront, ReadsFor, ShowsBase}
use Rattle.base_folder.proofs.filling.add_from.Given as goal

abbrev pub invariant-messages : goal.invariant-messages
invariant-messages g l = record {
  kept : FillsOnly {T = Unit {0}} g.H.Digest.keyed (l.i - l.fn.from) l.fn.folder l.folder (g.D.Disk.state l.fn.disk) (g.D.Disk.state l.disk) (Ok tt);
  held : Honestly (g.D.Disk.state l.disk) ((base : Base) (cursor : ℕ) → ShowsBase (g.M.MessageSource.state l.fn.messages) (g.M.MessageSource.state l.messages) base
      → HoldsFront g.H.Digest.keyed (held_by (g.D.Disk.state l.fn.disk) l.fn.folder) base.messages l.fn.from cursor
      → HoldsFront g.H.Digest.keyed (held_by (g.D.Disk.state l.disk) l.folder) base.messages l.i cursor);
  reads : ReadsFor {T = Unit {0}} (g.M.MessageSource.state l.fn.messages) (g.M.MessageSource.state l.messages) (Ok tt);
  cause : g.D.Disk.failures l.fn.disk ≤ g.D.Disk.failures l.disk;
}
