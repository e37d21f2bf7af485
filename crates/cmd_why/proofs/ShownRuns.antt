-- A run found by the bytes of link files is a run found on these files.
use Rattle.{std.{proofs.Common.{◌≡◌, ℕ, List, [], ◌∷◌, Option, refl, sym, ap, ◌∙◌}, specs.Prelude.IfSome}, echo_links.specs.Links.{LinkFile, upper}}
use Rattle.{echo_links.specs.LinkLines.file_of, cmd_why.specs.{declared.shown.Shown.Shown, Sources.files_of, Found.IsShown}}
use Rattle.{cmd_status.specs.Inputs.AreLinkFiles, cmd_check.proofs.Checks.of_same}

-- the link files that were read are those of their bytes
pub given_files : (inputs : List (List ℕ)) (files : List LinkFile) → AreLinkFiles inputs files → files_of inputs ≡ files
given_files [] [] are = refl
given_files (bytes ∷ inputs) [] are = absurd are
given_files [] (file ∷ files) are = absurd are
given_files (bytes ∷ inputs) (file ∷ files) are =
    ap (λ (fs : List LinkFile). file_of bytes ∷ fs) (given_files inputs files are.1) ∙ ap (λ (f : LinkFile). f ∷ files) (sym are.0.1)

-- the run shows its harm on these files
pub was_shown : (tag t : List ℕ) (inputs : List (List ℕ)) (files : List LinkFile) (found : Option Shown) →
    AreLinkFiles inputs files → t ≡ upper tag → IfSome found (IsShown (files_of inputs) t) → IfSome found (IsShown files (upper tag))
was_shown tag t inputs files found are raised shown =
    of_same (λ f u. IfSome found (IsShown f u)) (files_of inputs) files t (upper tag) (given_files inputs files are) raised shown
