-- Lines that were printed, as an answer.
use Rattle.std.{proofs.Common.{◌≡◌, ℕ, List, Result, subst, arith}, specs.{Prelude.IfErr, Io.KnownBytes.Appends}}
use Rattle.cmd_status.specs.{declared.fault.Fault.Fault, Devices.Output, Ended.IsDone, Ended.PassesAll}
use Rattle.cmd_store.specs.{declared.command_error.CommandError.CommandError, Answered.AnswersAndCommits, Answered.AreLines, Answered.PrintsAll, Stops.IsOfStore}

pub done_with : {A : Type 0} (IsRight : List ℕ → A → Type 0) (lines : List ℕ) (old new : Output) (value : A) → ((v : A) → IsRight lines v) → IsDone (AreLines lines) old new value
    → IsDone IsRight old new value
done_with IsRight lines old new value right out = grind arith

pub answered : {A : Type 0} (IsRight : List ℕ → A → Type 0) (IsRefused : Fault → Type 0) (lines : List ℕ) (old new : Output) (result : Result A CommandError) → ((v : A) → IsRight lines v)
    → PrintsAll lines old new result → AnswersAndCommits IsRight IsRefused old new result
answered IsRight IsRefused lines old new result h1 h2 = grind (arith, done_with)

pub printed_then : (lines : List ℕ) (old new : Output) (result : Result (Unit {0}) CommandError) → Appends old.contents new.contents lines → PassesAll old new → IfErr result IsOfStore
    → PrintsAll lines old new result
printed_then lines old new result h1 h2 h3 = grind arith

pub prints_same : {A : Type 0} (lines same : List ℕ) (old new : Output) (result : Result A CommandError) → lines ≡ same → PrintsAll lines old new result → PrintsAll same old new result
prints_same lines same old new result is out = subst (λ (l : List ℕ). PrintsAll l old new result) is out
