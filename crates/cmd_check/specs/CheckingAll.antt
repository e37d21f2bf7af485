-- The answer of `check --all`.
use Rattle.std.specs.Prelude.{◌≡◌, ◌↔◌, ◌+◌, ◌==◌, ℕ, Bool, List, [], ◌∷◌, ◌++◌, length, Option, None, Result, if◌then◌else◌}
use Rattle.cmd_status.specs.Devices.{Output}
use Rattle.cmd_status.specs.{declared.{fault.Fault.Fault, status.Status.{Status, TheVariants.{Good, Differs}}}, Ended.Answers}
use Rattle.{cmd_status.specs.Inputs.{AreLinkFiles, IsFirstFaultGiven, IsNodelistGiven}, echo_links.specs.Links.LinkFile}
use Rattle.{echo_nodelist.specs.declared.line.Line.Line, model_run.specs.{Tidy.Tidy, AnyState.NewMessagesAreInOrder}}
use Rattle.{echo_verdict.specs.{declared.verdict.Verdict.{Verdict, TheVariants.{Yes, No}}, Faults.IsCarried}, cmd_check.specs.AreaTags.AreAllTags}
use Rattle.cmd_check.specs.{Checking.IsCheckVerdict, Further.{IsVerdictShown, areas_line}}

-- 1 for a no, 0 for a yes.
abbrev pub no_count : Verdict → ℕ
no_count (Yes systems links) = 0
no_count (No fault) = 1

-- The lines of `check` on an area of these files, and the number of verdicts that are a no. If it is 0, each new message of
-- the area is in order.
pub record IsAreaChecked (files : List LinkFile) (list : Option (List Line)) (more : Bool) (tag : List ℕ) (noes : ℕ) (lines : List ℕ) : Type 0 where
  pub verdict : Verdict
  pub is_verdict : IsCheckVerdict files tag verdict
  pub printed : IsVerdictShown files tag list more verdict lines
  pub counted : noes ≡ no_count verdict
  pub orderly : noes ≡ 0 → NewMessagesAreInOrder files tag

-- Lines of one kind and then of another, and the number of verdicts of both that are a no.
pub record AreJoined (First Rest : ℕ → List ℕ → Type 0) (noes : ℕ) (lines : List ℕ) : Type 0 where
  pub first_no : ℕ
  pub rest_no : ℕ
  pub first_lines : List ℕ
  pub rest_lines : List ℕ
  pub is_first : First first_no first_lines
  pub is_rest : Rest rest_no rest_lines
  pub both : noes ≡ first_no + rest_no
  pub whole : lines ≡ first_lines ++ rest_lines

-- Lines for each of these areas, one after another, and the number of verdicts that are a no.
abbrev pub AreEachChecked : (List ℕ → ℕ → List ℕ → Type 0) → List (List ℕ) → ℕ → List ℕ → Type 0
AreEachChecked IsOne [] noes lines = (noes ≡ 0) × (lines ≡ [])
AreEachChecked IsOne (tag ∷ tags) noes lines = AreJoined (IsOne tag) (AreEachChecked IsOne tags) noes lines

-- The lines of `check` on each of these areas.
abbrev pub AreAreasChecked : List LinkFile → Option (List Line) → Bool → List (List ℕ) → ℕ → List ℕ → Type 0
AreAreasChecked files list more = AreEachChecked (IsAreaChecked files list more)

-- 1 if a verdict is a no.
abbrev pub verdicts_status : ℕ → Status
verdicts_status noes = if noes == 0 then Good else Differs

-- The link files and the nodelist have no fault. These are the lines of the verdict on each area that a file has,
-- ascending by tag, and their count if it is requested. The status is 0 exactly if each of these areas is tidy. Then
-- each new message of each is in order.
pub record IsAllChecked (nodelist : Option (List ℕ)) (more : Bool) (inputs : List (List ℕ)) (lines : List ℕ) (status : Status) : Type 0 where
  pub files : List LinkFile
  pub are_files : AreLinkFiles inputs files
  pub list : Option (List Line)
  pub is_list : IsNodelistGiven nodelist list
  pub tags : List (List ℕ)
  pub are_tags : AreAllTags files tags
  pub noes : ℕ
  pub front : List ℕ
  pub printed : AreAreasChecked files list more tags noes front
  pub whole : lines ≡ front ++ areas_line more (length tags) noes
  pub status_is : status ≡ verdicts_status noes
  pub tidy : (status ≡ Good) ↔ ((tag : List ℕ) → IsCarried files tag → Tidy files tag)
  pub orderly : status ≡ Good → (tag : List ℕ) → IsCarried files tag → NewMessagesAreInOrder files tag

-- The right result of checking all areas.
abbrev pub CheckAllAnswers : Option (List ℕ) → Bool → List (List ℕ) → Option Fault → Output → Output → Result Status Fault → Type 0
CheckAllAnswers nodelist more inputs stopped old new answer =
    Answers (λ lines status. IsAllChecked nodelist more inputs lines status × (stopped ≡ None)) (IsFirstFaultGiven nodelist inputs stopped) old new answer
