-- Why a command on a store stopped.
use Rattle.std.specs.Prelude.{◌≡◌, ℕ, List, Result, Ok, Err}
use Rattle.base_file.specs.declared.fault.BaseFault.TheVariants.{TooMany}
use Rattle.cmd_status.specs.{declared.fault.Fault.{Fault, TheVariants.{Base, OutOfMemory, Post}}, Ended.IsCannotUse}
use Rattle.{base_store.specs.declared.store_error.StoreError.StoreError, echo_steps.specs.declared.step_error.PostStepError.PostStepError}
use Rattle.cmd_store.specs.declared.command_error.CommandError.{CommandError}
use Rattle.base_store.specs.declared.store_error.StoreError.TheVariants as error
use Rattle.echo_steps.specs.declared.step_error.PostStepError.TheVariants as post
use Rattle.cmd_store.specs.declared.command_error.CommandError.TheVariants as stop

abbrev pub post_stop : PostStepError → CommandError
post_stop (post.Refused why) = stop.Met (Post why)
post_stop (post.Store cause) = stop.Store cause

abbrev pub store_answer : {A : Type 0} → Result A CommandError → Result (Unit {0}) StoreError
store_answer (Ok done) = Ok tt
store_answer (Err (stop.Met fault)) = Ok tt
store_answer (Err (stop.Store cause)) = Err cause

abbrev pub IsOfStore : CommandError → Type 0
IsOfStore (stop.Met fault) = ⊥
IsOfStore (stop.Store cause) = Unit {0}

-- The reported fault of a command that stopped, with the store at this path.
abbrev pub IsReportedAs : List ℕ → CommandError → Fault → Type 0
IsReportedAs path (stop.Met fault) reported = reported ≡ fault
IsReportedAs path (stop.Store error.Memory) reported = reported ≡ OutOfMemory
IsReportedAs path (stop.Store error.TooMany) reported = reported ≡ Base TooMany
IsReportedAs path (stop.Store error.Device) reported = IsCannotUse path reported
IsReportedAs path (stop.Store error.Damaged) reported = IsCannotUse path reported
