use Rattle.std.proofs.{Common.{◌≡◌, ℕ, List, refl, arith}, lemmas.Result.on_ok_weaker}
use Rattle.disk_io.specs.Steps.{TornMaking}
use Rattle.disk_atomic.{specs.Changes.ChangesOnly, proofs.{Growing.grows_from_none, Changes.{only_nothing, only_path, then_only}, Parts.part_still}}
use Rattle.disk_atomic.proofs.keeping.stage_kept.Goals.{After-create, After-sync_parent_folder-2}
use Rattle.disk_atomic.proofs.keeping.stage_kept.Given as given
use Rattle.disk_atomic.proofs.keeping.stage_kept.Goals as goal

pub fill_kept-requires-clause-growing : goal.fill_kept-requires-clause-growing
fill_kept-requires-clause-growing g c = grind (arith, grows_from_none)

seen_still : (g : given.Over) (c : After-sync_parent_folder-2 g) → (g.D.Disk.state c.sync_parent_folder-2.new.disk).seen c.args.path.now ≡ (g.D.Disk.state c.args.disk.now).seen c.args.path.now
seen_still g c = grind arith

first_honest : (g : given.Over) (c : After-sync_parent_folder-2 g) → (g.D.Disk.state c.sync_parent_folder-2.new.disk).is_honest → (g.D.Disk.state c.args.disk.now).is_honest
first_honest g c honest = c.sync_parent_folder.ensures.quiet.honest (c.create.ensures.changes.time.honest (c.sync_parent_folder-2.ensures.quiet.honest honest))

pub fill_kept-requires-clause-part : goal.fill_kept-requires-clause-part
fill_kept-requires-clause-part g c = grind (arith, part_still, seen_still, first_honest)

pub returns-in_err-sync_parent_folder-clause-changes : goal.returns-in_err-sync_parent_folder-clause-changes
returns-in_err-sync_parent_folder-clause-changes g c =
    only_nothing (λ (m : List ℕ). m ≡ c.args.staging.now) (g.D.Disk.state c.args.disk.now) (g.D.Disk.state c.sync_parent_folder.new.disk) c.sync_parent_folder.ensures.quiet

created : (g : given.Over) (c : After-create g) → ChangesOnly (λ m. m ≡ c.args.staging.now) (g.D.Disk.state c.args.disk.now) (g.D.Disk.state c.create.new.self)
created g c =
    let path = c.args.staging.now in
    let at = λ (m : List ℕ). m ≡ path in
    let d0 = g.D.Disk.state c.args.disk.now in
    let d1 = g.D.Disk.state c.sync_parent_folder.new.disk in
    let d2 = g.D.Disk.state c.create.new.self in
    let now = c.create.ensures in
    then_only at d0 d1 d2 (only_nothing at d0 d1 c.sync_parent_folder.ensures.quiet)
    (only_path at d1 d2 path TornMaking refl (c.in_ok-sync_parent_folder.ensures.durable path c.requires.staging_in) now.changes)

flushed : (g : given.Over) (c : After-sync_parent_folder-2 g) → ChangesOnly (λ m. m ≡ c.args.staging.now) (g.D.Disk.state c.args.disk.now) (g.D.Disk.state c.create.new.self)
    → ChangesOnly (λ m. m ≡ c.args.staging.now) (g.D.Disk.state c.args.disk.now) (g.D.Disk.state c.sync_parent_folder-2.new.disk)
flushed g c before =
    let at = λ (m : List ℕ). m ≡ c.args.staging.now in
    let d2 = g.D.Disk.state c.create.new.self in
    let d3 = g.D.Disk.state c.sync_parent_folder-2.new.disk in
    then_only at (g.D.Disk.state c.args.disk.now) d2 d3 before (only_nothing at d2 d3 c.sync_parent_folder-2.ensures.quiet)

pub returns-in_err-create-clause-changes : goal.returns-in_err-create-clause-changes
returns-in_err-create-clause-changes g c = created g (goal.at.returns-in_err-create-clause-changes g c).After-create

pub returns-in_err-sync_parent_folder-2-clause-changes : goal.returns-in_err-sync_parent_folder-2-clause-changes
returns-in_err-sync_parent_folder-2-clause-changes g c = flushed g (goal.at.returns-in_err-sync_parent_folder-2-clause-changes g c).After-sync_parent_folder-2 (created g (goal.at.returns-in_err-sync_parent_folder-2-clause-changes g c).After-create)

pub returns-clause-named : goal.returns-clause-named
returns-clause-named g c =
    on_ok_weaker c.fill_kept.result (λ is m inside. c.fill_kept.ensures.named m (λ h. h) (c.in_ok-sync_parent_folder-2.ensures.durable m inside)) c.fill_kept.ensures.filled

pub returns-clause-changes : goal.returns-clause-changes
returns-clause-changes g c =
    let a = (goal.at.returns-clause-changes g c).After-sync_parent_folder-2 in
    then_only (λ (m : List ℕ). m ≡ c.args.staging.now) (g.D.Disk.state c.args.disk.now) (g.D.Disk.state c.sync_parent_folder-2.new.disk) (g.D.Disk.state c.fill_kept.new.disk)
    (flushed g a (created g (goal.at.returns-clause-changes g c).After-create)) c.fill_kept.ensures.changes

pub returns-clause-bytes : goal.returns-clause-bytes
returns-clause-bytes g c honest = grind (arith, on_ok_weaker, seen_still)
