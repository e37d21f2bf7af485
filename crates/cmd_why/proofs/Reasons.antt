-- The answer of `why`, from those of its parts.
use Rattle.std.specs.{Prelude.{codes, Contains, IfSome, ◌↔◌}, List.{flat_map, Sorted.IsStrictlySortedBy}, Ordering.nat_cmp}
use Rattle.{std.proofs.Common.{◌≡◌, ◌++◌, ℕ, List, [], Option, refl, sym, subst, append_assoc, ◌∙◌, arith}, echo_links.specs.Links.{LinkFile, upper}}
use Rattle.{echo_verdict.{specs.declared.verdict.Verdict.Verdict, proofs.Drawings.held_again}, cmd_why.specs.{declared.shown.Shown.Shown, Found.IsShown}}
use Rattle.cmd_why.{specs.{Sources.files_of, Whys.{AreNamed, AreWhyLines, found_lines, named_in, who_line}, Reasoning.IsReasoned}, proofs.ShownRuns.was_shown}
use Rattle.{cmd_status.{specs.{declared.status.Status.Status, Inputs.AreLinkFiles}, proofs.Lines.alone}, cmd_print.specs.{Checked.verdict_line, Pushed.Pushes}}
use Rattle.cmd_check.{specs.Checking.{IsCheckVerdict, verdict_status}, proofs.Checks.{good_is_yes, of_same, yes_is_good}}

-- lines added to none
pub were_pushed : (P : List ℕ → Type 0) (none lines : List ℕ) → none ≡ [] → Pushes P none lines → P lines
were_pushed P none lines nothing pushed = subst P (sym (alone none lines pushed.lines nothing pushed.whole)) pushed.are

-- the systems that a script names were put in order
pub were_named : (verdict : Verdict) (found : Option Shown) (before after : List ℕ) → before ≡ named_in verdict found → IsStrictlySortedBy nat_cmp after
    → ((x : ℕ) → Contains after x ↔ Contains before x) → AreNamed verdict found after
were_named verdict found before after is ascending same = record { ascending = ascending; members = held_again before after (named_in verdict found) is same }

-- the lines of the verdict, of the systems and of the run were added
pub why_pushed : (files : List LinkFile) (paths : List (List ℕ)) (tag : List ℕ) (verdict : Verdict) (found : Option Shown) (systems old noted known new : List ℕ)
    → AreNamed verdict found systems → noted ≡ old ++ (codes "; " ++ verdict_line tag verdict) → known ≡ noted ++ flat_map (who_line files paths) systems
    → new ≡ known ++ found_lines tag verdict found → Pushes (AreWhyLines files paths tag verdict found) old new
why_pushed files paths tag verdict found systems old noted known new named first second third = grind (arith, append_assoc)

-- a run that goes wrong on link files that were read is printed
pub was_reasoned : (tag t : List ℕ) (inputs paths : List (List ℕ)) (files : List LinkFile) (verdict : Verdict) (found : Option Shown) (lines : List ℕ) (status : Status)
    → AreLinkFiles inputs files → t ≡ upper tag → IsCheckVerdict files t verdict → IfSome found (IsShown (files_of inputs) t)
    → AreWhyLines files paths t verdict found lines → status ≡ verdict_status verdict → IsReasoned tag inputs paths lines status
was_reasoned tag t inputs paths files verdict found lines status are raised judged shown whole ended =
    let same : files ≡ files = refl in
    let judged_upper : IsCheckVerdict files (upper tag) verdict = of_same (λ f u. IsCheckVerdict f u verdict) files files t (upper tag) same raised judged in
    record {
      files = files;
      are_files = are;
      verdict = verdict;
      is_verdict = judged_upper;
      found = found;
      shown = was_shown tag t inputs files found are raised shown;
      printed = subst (λ (u : List ℕ). AreWhyLines files paths u verdict found lines) raised whole;
      status_is = ended;
      tidy = (
        λ good. judged_upper.tidy.0 (good_is_yes verdict (sym ended ∙ good)),
        λ tidy. ended ∙ yes_is_good verdict (judged_upper.tidy.1 tidy),
      );
    }
