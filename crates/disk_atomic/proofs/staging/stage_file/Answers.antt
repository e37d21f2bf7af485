use Rattle.std.proofs.{Common.{◌≡◌, ◌∙◌, ℕ, List, refl}, lemmas.Result.on_ok_weaker}
use Rattle.disk_io.specs.Steps.{TornMaking}
use Rattle.disk_atomic.specs.Changes.{ChangesOnly}
use Rattle.disk_atomic.proofs.{Changes.only_nothing, Changes.only_path, Changes.then_only, staging.stage_file.Goals.After-create, staging.stage_file.Goals.After-sync_parent_folder-2}
use Rattle.disk_atomic.proofs.staging.stage_file.Given as given
use Rattle.disk_atomic.proofs.staging.stage_file.Goals as goal

pub fill_file-requires-clause-empty : goal.fill_file-requires-clause-empty
fill_file-requires-clause-empty g c = c.sync_parent_folder-2.ensures.quiet.seen c.args.path.now ∙ c.in_ok-create.ensures.made

pub fill_file-requires-clause-named : goal.fill_file-requires-clause-named
fill_file-requires-clause-named g c = c.in_ok-sync_parent_folder-2.ensures.durable c.args.path.now c.requires

pub fill_file-requires-clause-alone : goal.fill_file-requires-clause-alone
fill_file-requires-clause-alone g c = c.sync_parent_folder-2.ensures.quiet.alone c.args.path.now (λ h. h) c.in_ok-create.ensures.own

pub returns-in_err-sync_parent_folder-clause-changes : goal.returns-in_err-sync_parent_folder-clause-changes
returns-in_err-sync_parent_folder-clause-changes g c =
    only_nothing (λ (m : List ℕ). m ≡ c.args.path.now) (g.D.Disk.state c.args.disk.now) (g.D.Disk.state c.sync_parent_folder.new.disk) c.sync_parent_folder.ensures.quiet

created : (g : given.Over) (c : After-create g) → ChangesOnly (λ m. m ≡ c.args.path.now) (g.D.Disk.state c.args.disk.now) (g.D.Disk.state c.create.new.self)
created g c =
    let path = c.args.path.now in
    let at = λ (m : List ℕ). m ≡ path in
    let d0 = g.D.Disk.state c.args.disk.now in
    let d1 = g.D.Disk.state c.sync_parent_folder.new.disk in
    let d2 = g.D.Disk.state c.create.new.self in
    let now = c.create.ensures in
    then_only at d0 d1 d2 (only_nothing at d0 d1 c.sync_parent_folder.ensures.quiet)
    (only_path at d1 d2 path TornMaking refl (c.in_ok-sync_parent_folder.ensures.durable path c.requires) now.changes)

flushed : (g : given.Over) (c : After-sync_parent_folder-2 g) → ChangesOnly (λ m. m ≡ c.args.path.now) (g.D.Disk.state c.args.disk.now) (g.D.Disk.state c.create.new.self)
    → ChangesOnly (λ m. m ≡ c.args.path.now) (g.D.Disk.state c.args.disk.now) (g.D.Disk.state c.sync_parent_folder-2.new.disk)
flushed g c before =
    let at = λ (m : List ℕ). m ≡ c.args.path.now in
    let d2 = g.D.Disk.state c.create.new.self in
    let d3 = g.D.Disk.state c.sync_parent_folder-2.new.disk in
    then_only at (g.D.Disk.state c.args.disk.now) d2 d3 before (only_nothing at d2 d3 c.sync_parent_folder-2.ensures.quiet)

pub returns-in_err-create-clause-changes : goal.returns-in_err-create-clause-changes
returns-in_err-create-clause-changes g c = created g (goal.at.returns-in_err-create-clause-changes g c).After-create

pub returns-in_err-sync_parent_folder-2-clause-changes : goal.returns-in_err-sync_parent_folder-2-clause-changes
returns-in_err-sync_parent_folder-2-clause-changes g c = flushed g (goal.at.returns-in_err-sync_parent_folder-2-clause-changes g c).After-sync_parent_folder-2 (created g (goal.at.returns-in_err-sync_parent_folder-2-clause-changes g c).After-create)

pub returns-clause-named : goal.returns-clause-named
returns-clause-named g c =
    on_ok_weaker c.fill_file.result (λ is m inside. c.fill_file.ensures.named m (λ h. h) (c.in_ok-sync_parent_folder-2.ensures.durable m inside)) c.fill_file.ensures.filled

pub returns-clause-changes : goal.returns-clause-changes
returns-clause-changes g c =
    then_only (λ (m : List ℕ). m ≡ c.args.path.now) (g.D.Disk.state c.args.disk.now) (g.D.Disk.state c.sync_parent_folder-2.new.disk) (g.D.Disk.state c.fill_file.new.disk) (flushed g (goal.at.returns-clause-changes g c).After-sync_parent_folder-2 (created g (goal.at.returns-clause-changes g c).After-create)) c.fill_file.ensures.changes
