-- The answer of `why`.
use Rattle.std.specs.Prelude.{◌≡◌, ℕ, ◌↔◌, IfSome, List, Option, None, Result}
use Rattle.cmd_status.specs.{Devices.Output, declared.fault.Fault.Fault}
use Rattle.cmd_status.specs.{declared.status.Status.{Status, TheVariants.Good}, Ended.Answers, Inputs.{AreLinkFiles, IsFirstFaultGiven}}
use Rattle.{echo_links.specs.Links.{LinkFile, upper}, model_run.specs.Tidy.Tidy, echo_verdict.specs.declared.verdict.Verdict.Verdict}
use Rattle.{cmd_why.specs.{declared.shown.Shown.Shown, Found.IsShown, Whys.AreWhyLines}, cmd_check.specs.Checking.{IsCheckVerdict, verdict_status}}

-- The link files have no fault. These lines are the verdict on the area of the tag in upper case. After a no there
-- may be a run on these files that has the harm. Each system in the run has its address and the path of its file. The
-- status is that of `check`.
pub record IsReasoned (tag : List ℕ) (inputs paths : List (List ℕ)) (lines : List ℕ) (status : Status) : Type 0 where
  pub files : List LinkFile
  pub are_files : AreLinkFiles inputs files
  pub verdict : Verdict
  pub is_verdict : IsCheckVerdict files (upper tag) verdict
  pub found : Option Shown
  pub shown : IfSome found (IsShown files (upper tag))
  pub printed : AreWhyLines files paths (upper tag) verdict found lines
  pub status_is : status ≡ verdict_status verdict
  pub tidy : (status ≡ Good) ↔ Tidy files (upper tag)

-- The right result of printing a verdict and a found run.
abbrev pub PrintsWhy : List LinkFile → List (List ℕ) → List ℕ → Verdict → Option Shown → Output → Output → Result Status Fault → Type 0
PrintsWhy files paths tag verdict found old new answer =
    Answers (λ lines status. AreWhyLines files paths tag verdict found lines × (status ≡ verdict_status verdict)) (λ fault. ⊥) old new answer

-- The right result of showing the harm of an area.
abbrev pub WhyAnswers : List ℕ → List (List ℕ) → List (List ℕ) → Option Fault → Output → Output → Result Status Fault → Type 0
WhyAnswers tag inputs paths stopped old new answer =
    Answers (λ lines status. IsReasoned tag inputs paths lines status × (stopped ≡ None)) (IsFirstFaultGiven None inputs stopped) old new answer
