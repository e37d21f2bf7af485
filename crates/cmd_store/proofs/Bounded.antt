-- Commands on a store that holds too much.
use Rattle.{std.{proofs.Common.{List, ℕ, Option, Result, Ok, Err, inl, inr, ⊎_elim, sym, ◌∙◌, arith}, specs.Prelude.IsErrOf}, base_file.specs.Base.Base}
use Rattle.{disk_io.{specs.Disk.{Files, Honestly}, proofs.Moments.then_run}, base_store.specs.declared.store_error.StoreError.{StoreError, TheVariants.TooMany}}
use Rattle.base_store.specs.Store.{CommitsNothing, GoesOn, IsSameStore, KeepsOthers, KeepsOrCommits, LeavesCommitted, LeavesEither, MayCommit, SameOtherFiles, StoreState}
use Rattle.{base_store.proofs.Runs.{commits_none, same_twice, others_twice as kept_twice}, cmd_status.specs.declared.fault.Fault.Fault}
use Rattle.{echo_filed.specs.Filed.Filed, echo_steps.specs.declared.step_error.{PostStepError.PostStepError, StoppedToss.StoppedToss}}
use Rattle.echo_steps.specs.{declared.{step_error.TossStepError.TossStepError, tally.Tally.Tally}, PacketsIn.{stop_in, toss_answer}, Stores.post_answer}
use Rattle.{echo_steps.proofs.Bounds.{full_now, handed_many, past_after}, cmd_store.specs.Bounded.{IsStoppedFull, IsUncommitted}}
use Rattle.cmd_store.specs.{Stops.{post_stop, store_answer}, Tossed.{ReportsIn, ReportsStop}}
use Rattle.echo_steps.specs.declared.step_error.PostStepError.TheVariants as post
use Rattle.echo_steps.specs.declared.step_error.TossStepError.TheVariants as toss

pub post_many : (P : Type 0) (A B : Type 0) (why : PostStepError) → (IsErrOf (post_answer {T = A} (Err why)) TooMany → P) → IsErrOf (store_answer {A = B} (Err (post_stop why))) TooMany → P
post_many P A B (post.Refused refusal) gives is = gives is
post_many P A B (post.Store cause) gives is = gives is

pub full_after : {T : Type 0} (state : T → StoreState) (Adds : Base → Filed → Type 0) (old new : StoreState) (mid : T) → CommitsNothing old (state mid) → GoesOn old (state mid) → IsUncommitted (state mid) new → IsStoppedFull state Adds old new
full_after state Adds old new mid commits on not = grind (arith, past_after, full_now, commits_none)

stood_before : (old mid : StoreState) (c : Files) → IsSameStore old mid → KeepsOthers old mid → SameOtherFiles mid c → SameOtherFiles old c
stood_before old mid c same kept others m other named flushed =
    others m (λ own. other ((same.own m).0 own)) (kept.named m other named) (kept.flushed m other flushed) ∙ kept.seen m other

pub may_then_nothing : (old mid new : StoreState) → MayCommit old mid → Honestly mid.disk (KeepsOrCommits old mid) → CommitsNothing mid new → MayCommit old new
may_then_nothing old mid new may done none = record {
  any_moment = λ honest first next was kept.
      let before = none.others.honest honest in
      let run = may.any_moment before first next was kept in
      let stood = λ (base : Base) (c : Files) (left : LeavesCommitted mid base c). stood_before old mid c may.same may.others left.others in
      let shown = λ (base : Base) (c : Files) (left : LeavesCommitted mid base c). (may.same.represented base c).0 left.represented in
      ⊎_elim
      (λ (stays : (base : Base) → old.committed base → mid.committed base).
      then_run old.disk mid.disk new.disk (LeavesEither old first next) (LeavesCommitted mid first) run (none.any_moment honest first (stays first was)) (λ c left. record { others = stood first c left; represented = inl (shown first c left) }))
      (λ (moves : (base : Base) → old.keeps base → mid.committed base).
      then_run old.disk mid.disk new.disk (LeavesEither old first next) (LeavesCommitted mid next) run (none.any_moment honest next (moves next kept)) (λ c left. record { others = stood next c left; represented = inr (shown next c left) }))
      (done before);
  others = kept_twice old mid new may.same may.others none.others;
  same = same_twice old mid new may.same none.same;
}

stop_many : (old new : List ℕ) (tally : Tally) (why : TossStepError) (result : Result (Option Fault) StoreError) → ReportsStop old new tally why result → IsErrOf result TooMany
    → IsErrOf (toss_answer {A = Unit {0}} (Err why)) TooMany
stop_many old new tally (toss.Packet why) result is many = absurd (cc (is.0, many))
stop_many old new tally (toss.Store cause) result is many = handed_many cause (sym is ∙ many)

pub reports_many : (old new : List ℕ) (answer : Result Tally StoppedToss) (result : Result (Option Fault) StoreError) → ReportsIn old new answer result → IsErrOf result TooMany → IsErrOf (toss_answer (stop_in answer)) TooMany
reports_many old new (Ok tally) result is many = absurd (cc (is.0, many))
reports_many old new (Err stopped) result is many = stop_many old new stopped.tally stopped.stop result is many
