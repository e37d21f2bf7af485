-- The lines of `check` for the verdict on an area, and with `--more` for the faults that the verdict does not name.
use Rattle.std.specs.{Prelude.{◌≡◌, ℕ, ◌-◌, Bool, true, false, List, [], ◌++◌, codes, decimal, Option}, List.flat_map}
use Rattle.echo_links.specs.Links.{LinkFile}
use Rattle.{echo_nodelist.specs.declared.line.Line.Line, echo_verdict.specs.{declared.verdict.{NetFault.NetFault, Verdict.Verdict}, AllFaults.AreFurther}}
use Rattle.{echo_verdict.specs.Printed.fault_text, cmd_print.specs.Checked.{AbsencesShown, CheckShown, verdict_line}}

-- The line of a further fault.
abbrev pub also_line : NetFault → List ℕ
also_line fault = codes "also " ++ (fault_text fault ++ codes "\n")

-- The lines of the faults that the verdict does not name; no line if they are not requested.
abbrev pub FurtherShown : List LinkFile → List ℕ → Bool → Verdict → List ℕ → Type 0
FurtherShown files tag false verdict lines = lines ≡ []
FurtherShown files tag true verdict lines = (further : List NetFault) × AreFurther files tag verdict further × (lines ≡ flat_map also_line further)

-- The lines of a verdict without further faults, with those of these faults after the first line.
pub record IsMoreShown (files : List LinkFile) (tag : List ℕ) (list : Option (List Line)) (verdict : Verdict) (lines : List ℕ) : Type 0 where
  pub also : List ℕ
  pub absent : List ℕ
  pub reported : FurtherShown files tag true verdict also
  pub shown : AbsencesShown files tag list absent
  pub whole : lines ≡ verdict_line tag verdict ++ (also ++ absent)

-- The lines of the verdict on an area, with further faults if they are requested.
abbrev pub IsVerdictShown : List LinkFile → List ℕ → Option (List Line) → Bool → Verdict → List ℕ → Type 0
IsVerdictShown files tag list false verdict lines = CheckShown files tag list verdict lines
IsVerdictShown files tag list true verdict lines = IsMoreShown files tag list verdict lines

-- The last line: the number of areas, and the numbers of those with a yes and with a no. It is empty if it is not
-- requested.
abbrev pub areas_line : Bool → ℕ → ℕ → List ℕ
areas_line false areas noes = []
areas_line true areas noes = codes "areas " ++ (decimal areas ++ (codes " yes " ++ (decimal (areas - noes) ++ (codes " no " ++ (decimal noes ++ codes "\n")))))
