-- The answer of `picture --without`.
use Rattle.std.specs.{Prelude.{◌≡◌, ◌↔◌, ◌⊎◌, ℕ, ◌+◌, ◌%◌, Bool, true, false, List, [], ◌∷◌, ◌++◌, codes, decimal, Result}, List.flat_map}
use Rattle.{echo_addr.specs.{declared.address.Address.Address, Address.address_text}, echo_links.specs.Links.{LinkFile, upper}, model_run.specs.Tidy.Tidy}
use Rattle.{echo_verdict.specs.{declared.{drawing.Drawing.Drawing, verdict.Verdict.Verdict}, Drawn.IsDrawing}, cmd_status.specs.Devices.Output}
use Rattle.cmd_status.specs.{declared.{fault.Fault.Fault, status.Status.{Status, TheVariants.Good}}, Ended.Answers, Inputs.{AreLinkFiles, IsLinkFault}}
use Rattle.{cmd_print.specs.Pictured.{head_lines, link_line, system_line}, cmd_check.specs.Checking.{IsCheckVerdict, verdict_status}}
use Rattle.{cmd_check.specs.JudgedAreas.{alone_line, is_alone}, cmd_suppose.specs.{Leaving.texts_left, Parts.AreCutOff}}

-- The lines of a drawing but the last one.
abbrev pub picture_front : List ℕ → Verdict → Drawing → List ℕ
picture_front tag verdict drawing = head_lines tag verdict ++ (flat_map system_line drawing.systems ++ flat_map (link_line []) drawing.links)

-- The line of a system that is filled with the colour of this number.
abbrev pub filled_line : ℕ → Address → List ℕ
filled_line colour a = codes "\"" ++ (address_text a ++ (codes "\" [style=filled, fillcolor=\"/pastel19/" ++ (decimal colour ++ codes "\"];\n")))

-- The lines of the systems of each part, with the colours 1 to 9 in turn. The first of these parts has this number.
abbrev pub filled_lines : ℕ → List (List Address) → List ℕ
filled_lines k [] = []
filled_lines k (part ∷ later) = flat_map (filled_line (k % 9 + 1)) part ++ filled_lines (k + 1) later

-- The lines that draw the area of what is left, with the parts that are cut off. The status is that of `check`.
pub record IsPartsDrawn (left : List LinkFile) (tag lines : List ℕ) (status : Status) : Type 0 where
  pub verdict : Verdict
  pub is_verdict : IsCheckVerdict left tag verdict
  pub drawing : Drawing
  pub is_drawing : IsDrawing left tag verdict drawing
  pub cut : List (List Address)
  pub are_cut : AreCutOff left tag cut
  pub printed : lines ≡ picture_front tag verdict drawing ++ (filled_lines 0 cut ++ codes "}\n")
  pub status_is : status ≡ verdict_status verdict
  pub tidy : (status ≡ Good) ↔ Tidy left tag

-- The same, or an empty drawing if only left out systems have the area.
abbrev pub IsLeftDrawn : Bool → List LinkFile → List ℕ → List ℕ → Status → Type 0
IsLeftDrawn true left tag lines status = (status ≡ Good) × (lines ≡ codes "graph {\n}\n// " ++ alone_line tag)
IsLeftDrawn false left tag lines status = IsPartsDrawn left tag lines status

-- The link files have no fault, and these lines draw what is left of them in the area of the tag in upper case.
pub record IsPicturedWithout (tag : List ℕ) (inputs : List (List ℕ)) (out : List Address) (lines : List ℕ) (status : Status) : Type 0 where
  pub files : List LinkFile
  pub are_files : AreLinkFiles inputs files
  pub left : List LinkFile
  pub are_left : AreLinkFiles (texts_left out files) left
  pub drawn : IsLeftDrawn (is_alone files left (upper tag)) left (upper tag) lines status

-- The first fault of the link files, or of what is left of them.
abbrev pub IsFaultWithout : List (List ℕ) → List Address → Fault → Type 0
IsFaultWithout inputs out fault = IsLinkFault inputs fault ⊎ ((files : List LinkFile) × AreLinkFiles inputs files × IsLinkFault (texts_left out files) fault)

-- The right result of drawing what is left of an area.
abbrev pub PictureWithoutAnswers : List ℕ → List (List ℕ) → List Address → Output → Output → Result Status Fault → Type 0
PictureWithoutAnswers tag inputs out old new answer = Answers (IsPicturedWithout tag inputs out) (IsFaultWithout inputs out) old new answer
