use Rattle.std.proofs.{Common.{◌≡◌, ◌⊎◌, inl, ℕ, List, arith}, lemmas.Result.on_ok_weaker}
use Rattle.disk_io.{specs.{Disk.bytes_in, Runs.{LeavesOnly, OneStepOn}}, proofs.Moments.then_nothing}
use Rattle.disk_atomic.specs.{Changes.ChangesOnly, Keeping.kept_bytes, Replacing.Replaces}
use Rattle.disk_atomic.proofs.{Changes.only_nothing, Changes.then_only, Changes.weaker_steps, Changes.wider, Parts.on_disk_as, Replaced.not_yet, Replaced.renamed_only, Replaced.replaced_run}
use Rattle.disk_atomic.proofs.{Whole.some_is_there, keeping.replace_around.Goals.After-rename}
use Rattle.disk_atomic.proofs.keeping.replace_around.Given as given
use Rattle.disk_atomic.proofs.keeping.replace_around.Goals as goal

pub rename-requires-clause-there : goal.rename-requires-clause-there
rename-requires-clause-there g c honest = some_is_there _ _ c.in_ok-stage_kept.ensures.staged.seen

pub rename-requires-clause-durable : goal.rename-requires-clause-durable
rename-requires-clause-durable g c honest = c.in_ok-stage_kept.ensures.staged.flushed

pub returns-in_err-stage_kept-clause-any_moment : goal.returns-in_err-stage_kept-clause-any_moment
returns-in_err-stage_kept-clause-any_moment g c honest = grind (arith, weaker_steps, not_yet)

pub returns-in_err-stage_kept-clause-changes : goal.returns-in_err-stage_kept-clause-changes
returns-in_err-stage_kept-clause-changes g c = grind (arith, wider)

moments : (g : given.Over) (c : After-rename g) → (g.D.Disk.state c.rename.new.self).is_honest
    → LeavesOnly (g.D.Disk.state c.args.disk.now) (g.D.Disk.state c.rename.new.self)
    (OneStepOn (Replaces c.args.path.now c.args.staging.now (kept_bytes (bytes_in ((g.D.Disk.state c.args.disk.now).seen c.args.path.now)) c.args.kept)) (g.D.Disk.state c.args.disk.now))
moments g c honest =
    let path = c.args.path.now in
    let staging = c.args.staging.now in
    let d1 = g.D.Disk.state c.stage_kept.new.disk in
    let staged = c.in_ok-stage_kept.ensures in
    let bytes = kept_bytes (bytes_in ((g.D.Disk.state c.args.disk.now).seen path)) c.args.kept in
    replaced_run path staging bytes (g.D.Disk.state c.args.disk.now) d1 (g.D.Disk.state c.rename.new.self) c.requires.other c.stage_kept.ensures.changes
    (on_disk_as d1 staging bytes staged.staged (staged.bytes (c.rename.ensures.changes.time.honest honest))) (staged.named path c.requires.path_in) c.rename.ensures.changes

renamed : (g : given.Over) (c : After-rename g) → ChangesOnly (λ m. (m ≡ c.args.staging.now) ⊎ (m ≡ c.args.path.now)) (g.D.Disk.state c.args.disk.now) (g.D.Disk.state c.rename.new.self)
renamed g c =
    let path = c.args.path.now in
    let staging = c.args.staging.now in
    let few = λ (m : List ℕ). m ≡ staging in
    let both = λ (m : List ℕ). (m ≡ staging) ⊎ (m ≡ path) in
    let d0 = g.D.Disk.state c.args.disk.now in
    let d1 = g.D.Disk.state c.stage_kept.new.disk in
    let d2 = g.D.Disk.state c.rename.new.self in
    let staged = c.in_ok-stage_kept.ensures in
    then_only both d0 d1 d2 (wider few both d0 d1 (λ m is. inl is) c.stage_kept.ensures.changes)
    (renamed_only path staging (bytes_in (d1.seen staging)) d1 d2 staged.staged (staged.named path c.requires.path_in) c.rename.ensures.changes)

pub returns-in_err-rename-clause-any_moment : goal.returns-in_err-rename-clause-any_moment
returns-in_err-rename-clause-any_moment g c honest = moments g (goal.at.returns-in_err-rename-clause-any_moment g c).After-rename honest

pub returns-in_err-rename-clause-changes : goal.returns-in_err-rename-clause-changes
returns-in_err-rename-clause-changes g c = renamed g (goal.at.returns-in_err-rename-clause-changes g c).After-rename

pub returns-clause-any_moment : goal.returns-clause-any_moment
returns-clause-any_moment g c honest =
    let d0 = g.D.Disk.state c.args.disk.now in
    let path = c.args.path.now in
    then_nothing d0 (g.D.Disk.state c.rename.new.self) (g.D.Disk.state c.sync_parent_folder.new.disk)
    (OneStepOn (Replaces path c.args.staging.now (kept_bytes (bytes_in (d0.seen path)) c.args.kept)) d0)
    (moments g (goal.at.returns-clause-any_moment g c).After-rename (c.sync_parent_folder.ensures.quiet.honest honest)) c.sync_parent_folder.ensures.quiet

pub returns-clause-changes : goal.returns-clause-changes
returns-clause-changes g c =
    let both = λ (m : List ℕ). (m ≡ c.args.staging.now) ⊎ (m ≡ c.args.path.now) in
    let d2 = g.D.Disk.state c.rename.new.self in
    let d3 = g.D.Disk.state c.sync_parent_folder.new.disk in
    then_only both (g.D.Disk.state c.args.disk.now) d2 d3 (renamed g (goal.at.returns-clause-changes g c).After-rename) (only_nothing both d2 d3 c.sync_parent_folder.ensures.quiet)

pub returns-clause-replaced : goal.returns-clause-replaced
returns-clause-replaced g c honest = grind (arith, on_disk_as, on_ok_weaker)
