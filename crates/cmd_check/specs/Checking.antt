-- The answer of `check`.
use Rattle.std.specs.Prelude.{◌≡◌, ℕ, ◌↔◌, Bool, List, Option, None, Result}
use Rattle.cmd_status.specs.{Devices.Output, declared.fault.Fault.Fault}
use Rattle.cmd_status.specs.{declared.status.Status.{Status, TheVariants.{Good, Differs}}, Ended.Answers}
use Rattle.{cmd_status.specs.Inputs.{AreLinkFiles, IsFirstFaultGiven, IsNodelistGiven}, echo_links.specs.Links.{LinkFile, upper}}
use Rattle.{echo_nodelist.specs.declared.line.Line.Line, model_run.specs.{AnyState.NewMessagesAreInOrder, Tidy.Tidy}}
use Rattle.echo_verdict.specs.{declared.verdict.Verdict.{Verdict, TheVariants.{Yes, No}}, Faults.{IfNo, IfYes, IsFirstFault, IsYes}}
use Rattle.{echo_verdict.specs.Nets.{carrier_count, linked_pairs}, cmd_check.specs.Further.IsVerdictShown}

-- 1 for a no.
abbrev pub verdict_status : Verdict → Status
verdict_status (Yes systems links) = Good
verdict_status (No fault) = Differs

-- The verdict on an area: yes exactly if it is tidy, with its numbers of carriers and of linked pairs. A no names the
-- first fault.
pub record IsCheckVerdict (files : List LinkFile) (tag : List ℕ) (verdict : Verdict) : Type 0 where
  pub tidy : IsYes verdict ↔ Tidy files tag
  pub counted : IfYes verdict (λ systems links. (systems ≡ carrier_count files tag) × (links ≡ linked_pairs files tag))
  pub first : IfNo verdict (IsFirstFault files tag)

-- The link files and the nodelist have no fault. These are the lines of the verdict on the area of the tag in upper
-- case. The status is 0 exactly if the area is tidy, and then each new message of it is in order from any state on.
pub record IsChecked (nodelist : Option (List ℕ)) (more : Bool) (tag : List ℕ) (inputs : List (List ℕ)) (lines : List ℕ) (status : Status) : Type 0 where
  pub files : List LinkFile
  pub are_files : AreLinkFiles inputs files
  pub list : Option (List Line)
  pub is_list : IsNodelistGiven nodelist list
  pub verdict : Verdict
  pub is_verdict : IsCheckVerdict files (upper tag) verdict
  pub printed : IsVerdictShown files (upper tag) list more verdict lines
  pub status_is : status ≡ verdict_status verdict
  pub tidy : (status ≡ Good) ↔ Tidy files (upper tag)
  pub orderly : status ≡ Good → NewMessagesAreInOrder files (upper tag)

-- The right result of checking an area.
abbrev pub CheckAnswers : Option (List ℕ) → Bool → List ℕ → List (List ℕ) → Option Fault → Output → Output → Result Status Fault → Type 0
CheckAnswers nodelist more tag inputs stopped old new answer =
    Answers (λ lines status. IsChecked nodelist more tag inputs lines status × (stopped ≡ None)) (IsFirstFaultGiven nodelist inputs stopped) old new answer
