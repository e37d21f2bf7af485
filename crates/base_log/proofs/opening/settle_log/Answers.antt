use Rattle.std.proofs.Common.{List, ℕ, ⊎_elim, arith}
use Rattle.disk_io.specs.{Disk.DiskState, Disk.Honestly, Runs.ChangesNothing, Runs.LeavesOnly}
use Rattle.disk_io.proofs.Moments.{nothing_twice}
use Rattle.base_log.specs.{Log.IsShutAt, Names.folder_of, Names.log_of, Opening.KeepsButOne, Opening.RepresentsOrWasLeft, Standing.BaseBytes, Standing.IsNew, Standing.Represents}
use Rattle.base_log.proofs.{Keeping.but_one_quiet, Keeping.but_one_twice, Keeping.outside_quiet, Empty.chained_quiet, Empty.represented_quiet, Empty.was_left}
use Rattle.base_log.proofs.{Opened.made_read, Opened.new_few, Opened.shut_read, Opened.some_there, Paths.log_in, Quiet.new_quiet}
use Rattle.base_log.proofs.opening.settle_log.Goals.{After-make_log, After-sync}
use Rattle.base_log.proofs.opening.settle_log.Given as given
use Rattle.base_log.proofs.opening.settle_log.Goals as goal

record Leaves (path : List ℕ) (old new : DiskState) : Type 0 where
  others : KeepsButOne old new (log_of path)
  any_moment : Honestly new ((base : BaseBytes) → Represents path base old.seen → LeavesOnly old new (RepresentsOrWasLeft path old base))

by_quiet : (path : List ℕ) (old new : DiskState) → ChangesNothing old new → Leaves path old new
by_quiet path old new quiet = record { others = but_one_quiet old new (log_of path) quiet; any_moment = λ honest base represented. was_left old new path base quiet }

after_quiet : {path : List ℕ} (old : DiskState) {mid new : DiskState} → ChangesNothing old mid → Leaves path mid new → Leaves path old new
after_quiet {path} old {mid} {new} quiet then = record {
  others = but_one_twice old mid new (log_of path) (but_one_quiet old mid (log_of path) quiet) then.others;
  any_moment = λ honest base represented. chained_quiet old mid new path base quiet (outside_quiet path old mid quiet) (then.any_moment honest base (represented_quiet old mid path base quiet represented));
}

both_synced : (g : given.Over) (c : After-sync g) → Leaves (folder_of c.args.names.now) (g.D.Disk.state c.args.disk.now) (g.D.Disk.state c.sync.new.self)
both_synced g c = grind (arith, by_quiet, nothing_twice)

log_made : (g : given.Over) (c : After-make_log g) → Leaves (folder_of c.args.names.now) (g.D.Disk.state c.args.disk.now) (g.D.Disk.state c.make_log.new.disk)
log_made g c = after_quiet (g.D.Disk.state c.args.disk.now) c.sync_parent_folder.ensures.quiet (record { others = c.make_log.ensures.others; any_moment = c.make_log.ensures.any_moment })

pub sync-requires : goal.sync-requires
sync-requires g c honest = grind (arith, some_there)

pub make_log-requires-clause-new : goal.make_log-requires-clause-new
make_log-requires-clause-new g c honest = grind (arith, new_quiet, ⊎_elim)

pub returns-in_err-sync_parent_folder-clause-others : goal.returns-in_err-sync_parent_folder-clause-others
returns-in_err-sync_parent_folder-clause-others g c = (by_quiet (folder_of c.args.names.now) (g.D.Disk.state c.args.disk.now) (g.D.Disk.state c.sync_parent_folder.new.disk) c.sync_parent_folder.ensures.quiet).others

pub returns-in_err-sync_parent_folder-clause-any_moment : goal.returns-in_err-sync_parent_folder-clause-any_moment
returns-in_err-sync_parent_folder-clause-any_moment g c = (by_quiet (folder_of c.args.names.now) (g.D.Disk.state c.args.disk.now) (g.D.Disk.state c.sync_parent_folder.new.disk) c.sync_parent_folder.ensures.quiet).any_moment

pub returns-in_err-sync-clause-others : goal.returns-in_err-sync-clause-others
returns-in_err-sync-clause-others g c = (both_synced g (goal.at.returns-in_err-sync-clause-others g c).After-sync).others

pub returns-in_err-sync-clause-any_moment : goal.returns-in_err-sync-clause-any_moment
returns-in_err-sync-clause-any_moment g c = (both_synced g (goal.at.returns-in_err-sync-clause-any_moment g c).After-sync).any_moment

pub returns-then-is_shut-clause-log : goal.returns-then-is_shut-clause-log
returns-then-is_shut-clause-log g c honest =
    let path = folder_of c.args.names.now in
    grind (arith, shut_read, some_there, log_in)

pub returns-then-is_shut-clause-others : goal.returns-then-is_shut-clause-others
returns-then-is_shut-clause-others g c = (both_synced g (goal.at.returns-then-is_shut-clause-others g c).After-sync).others

pub returns-then-is_shut-clause-any_moment : goal.returns-then-is_shut-clause-any_moment
returns-then-is_shut-clause-any_moment g c = (both_synced g (goal.at.returns-then-is_shut-clause-any_moment g c).After-sync).any_moment

pub returns-in_err-make_log-clause-others : goal.returns-in_err-make_log-clause-others
returns-in_err-make_log-clause-others g c = (log_made g (goal.at.returns-in_err-make_log-clause-others g c).After-make_log).others

pub returns-in_err-make_log-clause-any_moment : goal.returns-in_err-make_log-clause-any_moment
returns-in_err-make_log-clause-any_moment g c = (log_made g (goal.at.returns-in_err-make_log-clause-any_moment g c).After-make_log).any_moment

pub returns-clause-log : goal.returns-clause-log
returns-clause-log g c honest =
    let path = folder_of c.args.names.now in
    let h1 = c.make_log.ensures.others.honest honest in
    let h0 = c.sync_parent_folder.ensures.quiet.honest h1 in
    let d0 = g.D.Disk.state c.args.disk.now in
    let log = c.args.log.now in
    let new = ⊎_elim (λ (shut : IsShutAt log.end.records_len log.bytes.items). absurd (cc (c.is_shut.ensures.1 shut, c.if-is_shut.false))) (λ (new : IsNew path d0.seen). new) (c.requires.ended h0) in
    let made = c.in_ok-make_log.ensures in
    made_read log.bytes.items log.end c.requires.log.read (g.D.Disk.state c.make_log.new.disk) path (new_few log.bytes.items log.end c.requires.log.read path d0.seen (c.requires.log.same h0) new) (made.made honest) (made.on_disk honest) (made.named honest)

pub returns-clause-others : goal.returns-clause-others
returns-clause-others g c = (log_made g (goal.at.returns-clause-others g c).After-make_log).others

pub returns-clause-any_moment : goal.returns-clause-any_moment
returns-clause-any_moment g c = (log_made g (goal.at.returns-clause-any_moment g c).After-make_log).any_moment
