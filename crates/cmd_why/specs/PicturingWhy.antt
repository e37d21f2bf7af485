-- The answer of `picture --why`.
use Rattle.std.specs.Prelude.{◌≡◌, ℕ, ◌↔◌, IfSome, List, Option, None, Result}
use Rattle.cmd_status.specs.{Devices.Output, declared.fault.Fault.Fault}
use Rattle.cmd_status.specs.{declared.status.Status.{Status, TheVariants.Good}, Ended.Answers, Inputs.{AreLinkFiles, IsFirstFaultGiven}}
use Rattle.{echo_links.specs.Links.{LinkFile, upper}, model_run.specs.Tidy.Tidy, echo_verdict.specs.declared.drawing.{Crossing.Crossing, Drawing.Drawing}}
use Rattle.{echo_verdict.specs.{declared.verdict.Verdict.Verdict, Drawn.IsDrawing}, cmd_why.specs.{declared.shown.Shown.Shown, Carrying.found_crossings}}
use Rattle.{cmd_why.specs.{Found.IsShown, Sources.files_of}, cmd_print.specs.Pictured.picture_lines, cmd_check.specs.Checking.{IsCheckVerdict, verdict_status}}

-- The link files have no fault. These lines draw the area of the tag in upper case, with the parts of the verdict
-- marked. If a run is found that does harm, the links are labelled by which its message reaches the system of the
-- harm. The status is that of `check`.
pub record IsPicturedWhy (tag : List ℕ) (inputs : List (List ℕ)) (lines : List ℕ) (status : Status) : Type 0 where
  pub files : List LinkFile
  pub are_files : AreLinkFiles inputs files
  pub verdict : Verdict
  pub is_verdict : IsCheckVerdict files (upper tag) verdict
  pub drawing : Drawing
  pub is_drawing : IsDrawing files (upper tag) verdict drawing
  pub found : Option Shown
  pub shown : IfSome found (IsShown files (upper tag))
  pub printed : lines ≡ picture_lines (upper tag) verdict drawing (found_crossings files (upper tag) found)
  pub status_is : status ≡ verdict_status verdict
  pub tidy : (status ≡ Good) ↔ Tidy files (upper tag)

-- The labelled links are those of a found run.
abbrev pub AreCrossings : List (List ℕ) → List ℕ → List Crossing → Type 0
AreCrossings inputs tag crossings =
    (found : Option Shown) × IfSome found (IsShown (files_of inputs) tag) × (crossings ≡ found_crossings (files_of inputs) tag found)

-- The right result of drawing an area with its harm.
abbrev pub PictureWhyAnswers : List ℕ → List (List ℕ) → Option Fault → Output → Output → Result Status Fault → Type 0
PictureWhyAnswers tag inputs stopped old new answer =
    Answers (λ lines status. IsPicturedWhy tag inputs lines status × (stopped ≡ None)) (IsFirstFaultGiven None inputs stopped) old new answer
