-- Steps of a system that has its messages and cursor in a store.
use Rattle.std.specs.Prelude.{◌≡◌, ◌++◌, true, false, ℕ, List, Option, Some, option_to_list, Result, Ok, Err, OnErr, OnOk}
use Rattle.base_file.specs.Base.{Base}
use Rattle.echo_filed.specs.Filed.{Filed}
use Rattle.echo_links.specs.Links.{LinkFile}
use Rattle.base_store.specs.{Store.GoesOn, Store.LooksOn, Store.StoreState, Store.Undoes, declared.store_error.StoreError.StoreError}
use Rattle.model_steps.specs.{declared.draft.Draft.Draft, declared.stamp.Stamp.Stamp, declared.outcome.Outcome.Outcome, Posting.IsPostFault, Posting.post_refusal, Stamps.is_stamp}
use Rattle.model_steps.specs.declared.fault.PostFault.TheVariants as fault
use Rattle.model_steps.specs.declared.outcome.Outcome.TheVariants as outcome
use Rattle.echo_steps.specs.declared.step_error.{PostStepError.PostStepError, ScanStepError.ScanStepError}
use Rattle.echo_steps.specs.declared.step_error.PostStepError.TheVariants as post
use Rattle.echo_steps.specs.declared.step_error.ScanStepError.TheVariants as scan

-- If there is a message, it is the new last one.
abbrev pub and_filed : Base → Option Filed → Base
and_filed base m = record { messages = base.messages ++ option_to_list m; cursor = base.cursor }

-- The store allows further calls, or a failed step undoes its change.
pub record GoesOnOrUndoes {T : Type 0} {E : Type 0} (old new : StoreState) (result : Result T E) : Type 0 where
  pub goes_on : OnOk result (GoesOn old new)
  pub undone : OnErr result (Undoes old new)

-- If the toss filed no message, only the current message has changed.
abbrev pub LooksUnlessFiled : StoreState → StoreState → Outcome → Type 0
LooksUnlessFiled old new outcome.Filed = Unit {0}
LooksUnlessFiled old new other = LooksOn old new

-- Why a posting failed: the refusal that applies, or the store, for a draft without fault.
abbrev pub IsPostStop : LinkFile → List Filed → List ℕ → Draft → ℕ → Stamp → PostStepError → Type 0
IsPostStop file base tag draft serial stamp (post.Refused refusal) = post_refusal file base tag draft serial stamp ≡ Some refusal
IsPostStop file base tag draft serial stamp (post.Store cause) = IsPostFault file base tag draft serial stamp fault.Memory

-- A refusal changed only the current message.
abbrev pub LooksWhereRefused : StoreState → StoreState → PostStepError → Type 0
LooksWhereRefused old new (post.Refused refusal) = LooksOn old new
LooksWhereRefused old new (post.Store cause) = Unit {0}

abbrev pub post_answer : {T : Type 0} → Result T PostStepError → Result (Unit {0}) StoreError
post_answer (Ok done) = Ok tt
post_answer (Err (post.Refused refusal)) = Ok tt
post_answer (Err (post.Store cause)) = Err cause

-- Why a scan failed: a bad stamp, which changes nothing, or the store, with a good stamp.
abbrev pub IsScanStop : Stamp → StoreState → StoreState → ScanStepError → Type 0
IsScanStop stamp old new scan.BadStamp = (is_stamp stamp ≡ false) × LooksOn old new
IsScanStop stamp old new (scan.Store cause) = is_stamp stamp ≡ true

abbrev pub scan_answer : {T : Type 0} → Result T ScanStepError → Result (Unit {0}) StoreError
scan_answer (Ok done) = Ok tt
scan_answer (Err scan.BadStamp) = Ok tt
scan_answer (Err (scan.Store cause)) = Err cause
