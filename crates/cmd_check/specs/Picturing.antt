-- The answer of `picture`.
use Rattle.std.specs.Prelude.{◌≡◌, ℕ, ◌↔◌, List, [], Option, None, Result}
use Rattle.cmd_status.specs.{Devices.Output, declared.fault.Fault.Fault}
use Rattle.cmd_status.specs.{declared.status.Status.{Status, TheVariants.Good}, Ended.Answers, Inputs.{AreLinkFiles, IsFirstFaultGiven}}
use Rattle.{echo_links.specs.Links.{LinkFile, upper}, model_run.specs.Tidy.Tidy, echo_verdict.specs.declared.drawing.{Crossing.Crossing, Drawing.Drawing}}
use Rattle.{echo_verdict.specs.{declared.verdict.Verdict.Verdict, Drawn.IsDrawing}, cmd_check.specs.Checking.{IsCheckVerdict, verdict_status}}
use Rattle.cmd_print.specs.Pictured.{picture_lines}

-- The link files have no fault. These lines draw the area of the tag in upper case, with the parts of the verdict
-- marked. The status is that of `check`.
pub record IsPictured (tag : List ℕ) (inputs : List (List ℕ)) (lines : List ℕ) (status : Status) : Type 0 where
  pub files : List LinkFile
  pub are_files : AreLinkFiles inputs files
  pub verdict : Verdict
  pub is_verdict : IsCheckVerdict files (upper tag) verdict
  pub drawing : Drawing
  pub is_drawing : IsDrawing files (upper tag) verdict drawing
  pub printed : lines ≡ picture_lines (upper tag) verdict drawing []
  pub status_is : status ≡ verdict_status verdict
  pub tidy : (status ≡ Good) ↔ Tidy files (upper tag)

-- The right result of printing a drawn area.
abbrev pub PrintsPicture : List ℕ → Verdict → Drawing → List Crossing → Output → Output → Result Status Fault → Type 0
PrintsPicture tag verdict drawing crossings old new answer =
    Answers (λ lines status. (lines ≡ picture_lines tag verdict drawing crossings) × (status ≡ verdict_status verdict)) (λ fault. ⊥) old new answer

-- The right result of drawing an area.
abbrev pub PictureAnswers : List ℕ → List (List ℕ) → Option Fault → Output → Output → Result Status Fault → Type 0
PictureAnswers tag inputs stopped old new answer =
    Answers (λ lines status. IsPictured tag inputs lines status × (stopped ≡ None)) (IsFirstFaultGiven None inputs stopped) old new answer
