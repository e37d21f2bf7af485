use Rattle.std.proofs.Common.{◌∙◌, get_or}
use Rattle.disk_atomic.specs.{Changes.ChangesOnly, Outgoing.IsStagingOne}
use Rattle.disk_atomic.proofs.{Changes.only_nothing, Changes.then_only, Packets.made_through, Packets.path_not_staging, staged.make_packets.Goals.After-sync_parent_folder-2}
use Rattle.disk_atomic.proofs.staged.make_packets.Given as given
use Rattle.disk_atomic.proofs.staged.make_packets.Goals as goal

changes : (g : given.Over) (c : After-sync_parent_folder-2 g) → ChangesOnly (IsStagingOne c.args.packets.now) (g.D.Disk.state c.args.disk.now) (g.D.Disk.state c.sync_parent_folder-2.new.disk)
changes g c =
    let at = IsStagingOne c.args.packets.now in
    let d0 = g.D.Disk.state c.args.disk.now in
    let d1 = g.D.Disk.state c.sync_parent_folder.new.disk in
    let d2 = g.D.Disk.state c.are_free.new.disk in
    let d3 = g.D.Disk.state c.make_files.new.disk in
    let d4 = g.D.Disk.state c.sync_parent_folder-2.new.disk in
    then_only at d0 d1 d4 (only_nothing at d0 d1 c.sync_parent_folder.ensures.quiet)
    (then_only at d1 d2 d4 (only_nothing at d1 d2 c.are_free.ensures.quiet)
    (then_only at d2 d3 d4 c.make_files.ensures.changes (only_nothing at d3 d4 c.sync_parent_folder-2.ensures.quiet)))

pub returns-in_err-sync_parent_folder-2-clause-changes : goal.returns-in_err-sync_parent_folder-2-clause-changes
returns-in_err-sync_parent_folder-2-clause-changes g c = changes g (goal.at.returns-in_err-sync_parent_folder-2-clause-changes g c).After-sync_parent_folder-2

pub returns-clause-changes : goal.returns-clause-changes
returns-clause-changes g c = changes g (goal.at.returns-clause-changes g c).After-sync_parent_folder-2

pub returns-clause-made : goal.returns-clause-made
returns-clause-made g c is = made_through (g.D.Disk.state c.make_files.new.disk) (g.D.Disk.state c.sync_parent_folder-2.new.disk) c.sync_parent_folder-2.ensures.quiet c.args.packets.now c.in_ok-make_files.ensures.made

pub returns-clause-free : goal.returns-clause-free
returns-clause-free g c honest is k z lt =
    let path = (get_or c.args.packets.now k z).path.now in
    let not = path_not_staging c.args.folder.now c.args.packets.now c.requires k z lt in
    let h3 = c.sync_parent_folder-2.ensures.quiet.honest honest in
    let h2 = c.make_files.ensures.changes.honest h3 in
    c.sync_parent_folder-2.ensures.quiet.seen path ∙ c.make_files.ensures.changes.seen path not ∙ c.are_free.ensures.quiet.seen path
    ∙ c.in_ok-are_free.ensures.free h2 c.if-not-branch.false k z lt
