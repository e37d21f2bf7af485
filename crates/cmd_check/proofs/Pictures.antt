-- The answer of `picture`, from those of its parts.
use Rattle.{std.proofs.Common.{◌≡◌, ℕ, List, [], arith}, echo_links.specs.Links.{LinkFile, upper}, echo_verdict.specs.declared.drawing.Drawing.Drawing}
use Rattle.{echo_verdict.specs.{declared.verdict.Verdict.Verdict, Drawn.IsDrawing}, cmd_status.specs.{declared.status.Status.Status, Inputs.AreLinkFiles}}
use Rattle.cmd_check.{specs.{Checking.{IsCheckVerdict, verdict_status}, Picturing.IsPictured}, proofs.Checks.{good_is_yes, of_same, yes_is_good}}
use Rattle.cmd_print.specs.Pictured.{picture_lines}

-- the lines that draw the area of link files that were read
pub was_pictured : (tag t : List ℕ) (inputs : List (List ℕ)) (files : List LinkFile) (verdict : Verdict) (drawing : Drawing) (lines : List ℕ) (status : Status)
    → AreLinkFiles inputs files → t ≡ upper tag → IsCheckVerdict files t verdict → IsDrawing files t verdict drawing
    → lines ≡ picture_lines t verdict drawing [] → status ≡ verdict_status verdict → IsPictured tag inputs lines status
was_pictured tag t inputs files verdict drawing lines status are raised judged drawn whole ended = grind (arith, of_same, good_is_yes, yes_is_good)
