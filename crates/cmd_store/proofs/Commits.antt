-- A command that changes a store and then commits, and the files that a crash leaves.
use Rattle.{std.{proofs.Common.{◌≤◌, ℕ, ⊎_elim, Result, Ok, Err, refl, arith}, specs.Prelude.{IfErr, OnOk}}, base_file.specs.Base.Base}
use Rattle.disk_io.{specs.Disk.{Files, Honestly}, proofs.Moments.{then_nothing, then_run, weaker_run}}
use Rattle.base_store.specs.Store.{Commits, CommitsNothing, GoesOn, HasStoreCause, KeepsOrCommits, LooksOn, MayCommit, LeavesEither, StoreState}
use Rattle.base_store.specs.declared.store_error.StoreError.{StoreError}
use Rattle.base_store.proofs.Runs.{commits_none, goes_on_twice, looks_commit, looks_go_on, same_twice, others_twice as kept_twice}
use Rattle.{base_store.proofs.Causes.{cause_after, no_cause}, echo_steps.specs.{declared.step_error.PostStepError.PostStepError, Stores.LooksWhereRefused}}
use Rattle.cmd_store.specs.Answered.{CommitsNoneWhereMet, GoesOnFromEither, HasCommitted, LooksWhereMet, MayCommitWhereMet, MayMake, RepresentsMade}
use Rattle.cmd_store.specs.{Stops.{IsOfStore, post_stop}, declared.command_error.CommandError.{CommandError, TheVariants.{Met, Store}}}
use Rattle.echo_steps.specs.declared.step_error.PostStepError.TheVariants as post

pub none_may : (old new : StoreState) → CommitsNothing old new → MayCommit old new
none_may old new none = grind (arith, weaker_run)

pub looks_may : (old new : StoreState) → old.is_ready → LooksOn old new → MayCommit old new
looks_may old new ready looks = none_may old new (looks_commit old new ready looks)

pub makes_none : (Makes : Base → Base → Type 0) (old new : StoreState) → CommitsNothing old new → MayMake Makes old new
makes_none Makes old new none = grind (arith, weaker_run)

pub stood_made : (Makes : Base → Base → Type 0) (old mid : StoreState) (first base next : Base) (c : Files) → CommitsNothing old mid → Makes base next
    → LeavesEither mid first next c → RepresentsMade old (Makes base) first c
stood_made Makes old mid first base next c none made either = grind (arith, ⊎_elim)

-- a run makes a base without a commit, and then may commit it
pub makes_then : (Makes : Base → Base → Type 0) (old mid new : StoreState) → CommitsNothing old mid → GoesOn old mid
    → Honestly mid.disk ((base : Base) → old.keeps base → (next : Base) × Makes base next × mid.keeps next) → MayCommit mid new → MayMake Makes old new
makes_then Makes old mid new none on made may = grind (arith, then_run, weaker_run, stood_made, kept_twice, same_twice)

pub committed_where : {A : Type 0} (IsMade : Base → Type 0) (mid new : StoreState) (next : Base) (result : Result A CommandError) → new.disk.is_honest → OnOk result (Commits mid new) → IsMade next → mid.keeps next
    → OnOk result (HasCommitted IsMade new)
committed_where IsMade mid new next (Ok value) honest done made kept = record { next = next; made = made; keeps = done.keeps honest next kept; committed = done.committed honest next kept }
committed_where IsMade mid new next (Err why) honest done made kept = tt

pub ready_where : {A : Type 0} (mid new : StoreState) (result : Result A CommandError) → OnOk result (Commits mid new) → OnOk result new.is_ready
ready_where mid new (Ok value) done = done.ready
ready_where mid new (Err why) done = tt

pub only_store : {A : Type 0} (old new : StoreState) (result : Result A CommandError) → IfErr result IsOfStore → IfErr result (LooksWhereMet old new)
only_store old new result h1 = grind arith

pub met_looking : (old new : StoreState) (why : CommandError) → old.is_ready → LooksOn old new → CommitsNoneWhereMet old new why
met_looking old new (Met fault) ready looks = (looks_commit old new ready looks, looks_go_on old new looks)
met_looking old new (Store cause) ready looks = tt

pub met_refused : (old new : StoreState) (why : PostStepError) → CommitsNothing old new → LooksWhereRefused old new why → CommitsNoneWhereMet old new (post_stop why)
met_refused old new (post.Refused refusal) none looks = (none, looks_go_on old new looks)
met_refused old new (post.Store cause) none looks = tt

pub met_after : {A : Type 0} (old mid new : StoreState) (result : Result A CommandError) → CommitsNothing old mid → GoesOn old mid → IfErr result (LooksWhereMet mid new)
    → IfErr result (CommitsNoneWhereMet old new)
met_after old mid new result h1 h2 h3 = grind (arith, commits_none, looks_commit, goes_on_twice, looks_go_on)

may_then_none : (old mid new : StoreState) → MayCommit old mid → mid.is_ready → LooksOn mid new → MayCommit old new
may_then_none old mid new may ready looks = grind (arith, then_nothing, kept_twice, looks_commit, same_twice)

either_then : (old mid new : StoreState) → Honestly mid.disk (KeepsOrCommits old mid) → LooksOn mid new → GoesOnFromEither old new
either_then old mid new done looks = grind (arith, ⊎_elim)

pub may_after : {A : Type 0} (old mid new : StoreState) (result : Result A CommandError) → MayCommit old mid → mid.is_ready → Honestly mid.disk (KeepsOrCommits old mid)
    → IfErr result (LooksWhereMet mid new) → IfErr result (MayCommitWhereMet old new)
may_after old mid new result h1 h2 h3 h4 = grind (arith, may_then_none, either_then)

pub caused_after : {T : Type 0} (old mid new : StoreState) (before between now : ℕ) (r : Result T StoreError) → before ≤ between → (old.is_sound → mid.is_sound)
    → Honestly new.disk ((base : Base) → old.keeps base → (next : Base) × mid.keeps next) → HasStoreCause mid new between now r → HasStoreCause old new before now r
caused_after old mid new before between now (Ok value) le sound holds cause = let passed = cause.later in no_cause old new before now value (omega (arith)) (λ was. cause.undamaged (sound was))
caused_after old mid new before between now (Err e) le sound holds cause = cause_after old mid new before between now (Err e) e le holds refl cause
