-- The answer of the command `check`, with the link files that it read.
use Rattle.std.specs.Prelude.{◌≡◌, ◌==◌, ◌||◌, ℕ, Bool, true, false, not, is_some, List, length, Option, None, Some, Result, Ok, Err}
use Rattle.echo_addr.specs.declared.address.Address.{Address}
use Rattle.cmd_status.specs.{Devices.Output, Status.status_of, declared.{fault.Fault.Fault, status.Status.{Status, TheVariants.Refused}}}
use Rattle.cmd_check.specs.{Checking.CheckAnswers, CheckingAll.CheckAllAnswers, Supposing.SupposingAnswers}
use Rattle.cmd_check.specs.declared.supposing.Judged.{Judged, TheVariants.{Ended, Unknown}}

-- A system is judged without its file, or left out.
abbrev pub supposing : List Address → Bool → List Address → Bool
supposing named missing out = (missing || not (length named == 0)) || not (length out == 0)

-- The answer for the files as they are: for the area of the tag, or for all areas.
abbrev pub PlainAnswers : Option (List ℕ) → Bool → Option (List ℕ) → List (List ℕ) → Option Fault → Output → Output → Result Status Fault → Type 0
PlainAnswers nodelist more None inputs stopped old new answer = CheckAllAnswers nodelist more inputs stopped old new answer
PlainAnswers nodelist more (Some tag) inputs stopped old new answer = CheckAnswers nodelist more tag inputs stopped old new answer

-- It has no unknown address.
abbrev pub EndsSo : (Result Status Fault → Type 0) → Result Judged Fault → Type 0
EndsSo IsAnswer (Ok (Ended status)) = IsAnswer (Ok status)
EndsSo IsAnswer (Ok (Unknown a)) = ⊥
EndsSo IsAnswer (Err fault) = IsAnswer (Err fault)

-- The right answer for these words and files.
pub record CheckedSo (nodelist : Option (List ℕ)) (more : Bool) (tag : Option (List ℕ)) (inputs : List (List ℕ)) (named : List Address) (missing : Bool) (out : List Address) (stopped : Option Fault) (old new : Output) (answer : Result Judged Fault) : Type 0 where
  pub plain : supposing named missing out ≡ false → EndsSo (PlainAnswers nodelist more tag inputs stopped old new) answer
  pub supposed : supposing named missing out ≡ true → SupposingAnswers nodelist more tag inputs named missing out stopped old new answer

-- The status of an answer.
abbrev pub judged_status : Result Judged Fault → Status
judged_status (Ok (Ended status)) = status
judged_status (Ok (Unknown a)) = Refused
judged_status (Err fault) = status_of fault

-- The status is that of the right answer for these files.
pub record EndsChecked (nodelist : Option (List ℕ)) (more : Bool) (tag : Option (List ℕ)) (inputs : List (List ℕ)) (named : List Address) (missing : Bool) (out : List Address) (stopped : Option Fault) (old new : Output) (status : Status) : Type 0 where
  pub answer : Result Judged Fault
  pub checked : CheckedSo nodelist more tag inputs named missing out stopped old new answer
  pub is : status ≡ judged_status answer

-- The status is that of the right answer for some files, of which so many were to be read: for all of them, or with the fault of one.
pub record ChecksFiles (files : ℕ) (nodelist : Option (List ℕ)) (more : Bool) (tag : Option (List ℕ)) (named : List Address) (missing : Bool) (out : List Address) (old new : Output) (status : Status) : Type 0 where
  pub inputs : List (List ℕ)
  pub stopped : Option Fault
  pub all : stopped ≡ None → length inputs ≡ files
  pub ends : EndsChecked nodelist more tag inputs named missing out stopped old new status

-- The words of the command, or its nodelist, have this fault, and nothing is printed.
pub record IsRefused (old new : Output) (status : Status) : Type 0 where
  pub fault : Fault
  pub is : status ≡ status_of fault
  pub printed : new ≡ old

-- The status of the command is that of the right answer for some files, systems and nodelist, as many as its words name.
pub record IsCheckRun (files : ℕ) (has_nodelist : Bool) (assumed left_out : ℕ) (more : Bool) (tag : Option (List ℕ)) (missing : Bool) (old new : Output) (status : Status) : Type 0 where
  pub nodelist : Option (List ℕ)
  pub listed : is_some nodelist ≡ has_nodelist
  pub named : List Address
  pub all_named : length named ≡ assumed
  pub out : List Address
  pub all_out : length out ≡ left_out
  pub checks : ChecksFiles files nodelist more tag named missing out old new status
