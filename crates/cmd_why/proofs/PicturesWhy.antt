-- The answer of `picture --why`, from those of its parts.
use Rattle.{std.{proofs.Common.{◌≡◌, ℕ, List, Option, refl, sym, ap, ◌∙◌}, specs.Prelude.IfSome}, echo_links.specs.Links.{LinkFile, upper}}
use Rattle.echo_verdict.specs.{declared.{drawing.{Crossing.Crossing, Drawing.Drawing}, verdict.Verdict.Verdict}, Drawn.IsDrawing}
use Rattle.cmd_why.specs.{declared.shown.Shown.Shown, Carrying.found_crossings, Found.IsShown, Sources.files_of, PicturingWhy.IsPicturedWhy}
use Rattle.{cmd_why.proofs.ShownRuns.{given_files, was_shown}, cmd_status.specs.{declared.status.Status.Status, Inputs.AreLinkFiles}}
use Rattle.cmd_check.{specs.Checking.{IsCheckVerdict, verdict_status}, proofs.Checks.{good_is_yes, of_same, yes_is_good}}
use Rattle.cmd_print.specs.Pictured.{picture_lines}

-- the verdict, the picture and the run of link files that were read
pub record IsDrawnWhy (inputs : List (List ℕ)) (files : List LinkFile) (t : List ℕ) (verdict : Verdict) (drawing : Drawing) (found : Option Shown) : Type 0 where
  pub judged : IsCheckVerdict files t verdict
  pub drawn : IsDrawing files t verdict drawing
  pub shown : IfSome found (IsShown (files_of inputs) t)

-- its lines
pub was_pictured_why : (tag t : List ℕ) (inputs : List (List ℕ)) (files : List LinkFile) (verdict : Verdict) (drawing : Drawing) (found : Option Shown) (crossings : List Crossing) (lines : List ℕ) (status : Status)
    → AreLinkFiles inputs files → t ≡ upper tag → IsDrawnWhy inputs files t verdict drawing found → crossings ≡ found_crossings (files_of inputs) t found
    → lines ≡ picture_lines t verdict drawing crossings → status ≡ verdict_status verdict → IsPicturedWhy tag inputs lines status
was_pictured_why tag t inputs files verdict drawing found crossings lines status are raised done crossed whole ended =
    let same : files ≡ files = refl in
    let judged_upper : IsCheckVerdict files (upper tag) verdict = of_same (λ f u. IsCheckVerdict f u verdict) files files t (upper tag) same raised done.judged in
    let given = given_files inputs files are in
    record {
      files = files;
      are_files = are;
      verdict = verdict;
      is_verdict = judged_upper;
      drawing = drawing;
      is_drawing = of_same (λ f u. IsDrawing f u verdict drawing) files files t (upper tag) same raised done.drawn;
      found = found;
      shown = was_shown tag t inputs files found are raised done.shown;
      printed = whole
          ∙ ap (picture_lines t verdict drawing) crossed
          ∙ (λ i. picture_lines (raised i) verdict drawing (found_crossings (given i) (raised i) found));
      status_is = ended;
      tidy = (
        λ good. judged_upper.tidy.0 (good_is_yes verdict (sym ended ∙ good)),
        λ tidy. ended ∙ yes_is_good verdict (judged_upper.tidy.1 tidy),
      );
    }
