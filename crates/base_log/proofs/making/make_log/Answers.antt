use Rattle.std.proofs.Common.{List, ℕ, ◌∙◌, subst}
use Rattle.disk_io.specs.{Disk.IsIn, Steps.TornWrite, Steps.ChangesFile, Runs.LeavesOnly, Runs.OneStepOn}
use Rattle.disk_io.proofs.Moments.{nothing_twice}
use Rattle.base_log.specs.Names.{folder_of, log_of}
use Rattle.base_log.proofs.{Calls.Made, Paths.log_in, Empty.was_left, Empty.made_run, Empty.named_run, Empty.gate_run}
use Rattle.base_log.proofs.making.make_log.Goals as goal

pub returns-in_err-settle_all-clause-any_moment : goal.returns-in_err-settle_all-clause-any_moment
returns-in_err-settle_all-clause-any_moment g c honest base represented =
    was_left (g.D.Disk.state c.args.disk.now) (g.D.Disk.state c.settle_all.new.disk) (folder_of c.args.names.now) base c.settle_all.ensures.quiet

pub returns-in_err-create-clause-any_moment : goal.returns-in_err-create-clause-any_moment
returns-in_err-create-clause-any_moment g c honest base represented =
    let h1 = c.create.ensures.changes.time.honest honest in
    let h0 = c.settle_all.ensures.quiet.honest h1 in
    let d1 = g.D.Disk.state c.settle_all.new.disk in
    let d2 = g.D.Disk.state c.create.new.self in
    made_run (g.D.Disk.state c.args.disk.now) d1 (folder_of c.args.names.now) base c.settle_all.ensures.quiet (c.requires.new h0).named (c.requires.new h0).new represented (c.in_ok-settle_all.ensures.flushed h1) d2
    (subst (λ (l : List ℕ). Made d1 d2 l) (c.deref.ensures.value ∙ c.requires.log) c.create.ensures.changes)

pub returns-in_err-sync_parent_folder-clause-any_moment : goal.returns-in_err-sync_parent_folder-clause-any_moment
returns-in_err-sync_parent_folder-clause-any_moment g c honest base represented =
    let h1 = c.create.ensures.changes.time.honest (c.sync_parent_folder.ensures.quiet.honest honest) in
    let h0 = c.settle_all.ensures.quiet.honest h1 in
    let d1 = g.D.Disk.state c.settle_all.new.disk in
    let d2 = g.D.Disk.state c.create.new.self in
    named_run (g.D.Disk.state c.args.disk.now) d1 (folder_of c.args.names.now) base c.settle_all.ensures.quiet (c.requires.new h0).named (c.requires.new h0).new represented (c.in_ok-settle_all.ensures.flushed h1) d2
    (subst (λ (l : List ℕ). Made d1 d2 l) (c.deref.ensures.value ∙ c.requires.log) c.create.ensures.changes)
    (g.D.Disk.state c.sync_parent_folder.new.disk) c.sync_parent_folder.ensures.quiet

pub returns-in_err-sync-clause-any_moment : goal.returns-in_err-sync-clause-any_moment
returns-in_err-sync-clause-any_moment g c honest base represented =
    let h1 = c.create.ensures.changes.time.honest (c.sync_parent_folder.ensures.quiet.honest (c.sync.ensures.quiet.honest honest)) in
    let h0 = c.settle_all.ensures.quiet.honest h1 in
    let d1 = g.D.Disk.state c.settle_all.new.disk in
    let d2 = g.D.Disk.state c.create.new.self in
    let d4 = g.D.Disk.state c.sync.new.self in
    named_run (g.D.Disk.state c.args.disk.now) d1 (folder_of c.args.names.now) base c.settle_all.ensures.quiet (c.requires.new h0).named (c.requires.new h0).new represented (c.in_ok-settle_all.ensures.flushed h1) d2
    (subst (λ (l : List ℕ). Made d1 d2 l) (c.deref.ensures.value ∙ c.requires.log) c.create.ensures.changes) d4
    (nothing_twice d2 (g.D.Disk.state c.sync_parent_folder.new.disk) d4 c.sync_parent_folder.ensures.quiet c.sync.ensures.quiet)

pub returns-clause-any_moment : goal.returns-clause-any_moment
returns-clause-any_moment g c honest base represented =
    let h4 = c.write_synced.ensures.others.honest honest in
    let h1 = c.create.ensures.changes.time.honest (c.sync_parent_folder.ensures.quiet.honest (c.sync.ensures.quiet.honest h4)) in
    let h0 = c.settle_all.ensures.quiet.honest h1 in
    let path = folder_of c.args.names.now in
    let d1 = g.D.Disk.state c.settle_all.new.disk in
    let d2 = g.D.Disk.state c.create.new.self in
    let d3 = g.D.Disk.state c.sync_parent_folder.new.disk in
    let d4 = g.D.Disk.state c.sync.new.self in
    let d5 = g.D.Disk.state c.write_synced.new.disk in
    let named = c.sync.ensures.quiet.named (log_of path) (λ h. h)
    (subst (λ (p : List ℕ). (m : List ℕ) → IsIn p m → d3.is_named m) c.deref-2.ensures.value c.in_ok-sync_parent_folder.ensures.durable (log_of path) (log_in path)) in
    gate_run (g.D.Disk.state c.args.disk.now) d1 path base c.settle_all.ensures.quiet (c.requires.new h0).named (c.requires.new h0).new represented (c.in_ok-settle_all.ensures.flushed h1) d2
    (subst (λ (l : List ℕ). Made d1 d2 l) (c.deref.ensures.value ∙ c.requires.log) c.create.ensures.changes) d4 d5
    (nothing_twice d2 d3 d4 c.sync_parent_folder.ensures.quiet c.sync.ensures.quiet) named
    (subst (λ (l : List ℕ). LeavesOnly d4 d5 (OneStepOn (ChangesFile d4 l (TornWrite 0 1)) d4)) (c.deref-4.ensures.value ∙ c.requires.log) c.write_synced.ensures.any_moment)

pub settle_all-requires-clause-gone : goal.settle_all-requires-clause-gone
settle_all-requires-clause-gone g c honest = (c.requires.new honest).gone
