-- The answer of `check`, from those of its parts.
use Rattle.{std.proofs.Common.{◌≡◌, ℕ, Bool, List, [], ◌∷◌, Option, Result, Ok, refl, sym, ap, subst, ◌∙◌, arith}, cmd_status.specs.Devices.Output}
use Rattle.cmd_status.specs.{declared.{fault.Fault.Fault, status.Status.{Status, TheVariants.Good}}, Inputs.{AreLinkFiles, IsNodelistGiven}}
use Rattle.{cmd_status.proofs.Lines.alone, echo_links.specs.Links.{LinkFile, upper}, echo_nodelist.specs.declared.line.Line.Line, model_run.specs.Tidy.Tidy}
use Rattle.{model_run.specs.AnyState.NewMessagesAreInOrder, echo_verdict.specs.{declared.verdict.Verdict.{Verdict, TheVariants.{Yes, No}}, Faults.IsYes}}
use Rattle.{cmd_check.specs.{Checking.{CheckAnswers, IsChecked, IsCheckVerdict, verdict_status}, Further.IsVerdictShown}, cmd_print.specs.Pushed.Pushes}

-- a yes has the status 0, and only a yes
pub good_is_yes : (v : Verdict) → verdict_status v ≡ Good → IsYes v
good_is_yes (Yes systems links) good = tt
good_is_yes (No f) good = absurd cc

pub yes_is_good : (v : Verdict) → IsYes v → verdict_status v ≡ Good
yes_is_good (Yes systems links) is_yes = refl
yes_is_good (No f) is_yes = absurd is_yes

-- a property of files and a tag holds of equal ones
pub of_same : (P : List LinkFile → List ℕ → Type 0) (f g : List LinkFile) (t u : List ℕ) → f ≡ g → t ≡ u → P f t → P g u
of_same P f g t u same_files same_tag holds = subst (λ (x : List ℕ). P g x) same_tag (subst (λ (x : List LinkFile). P x t) same_files holds)

-- the lines of the verdict on link files that were read
pub was_checked : (nodelist : Option (List ℕ)) (list : Option (List Line)) (more : Bool) (tag t : List ℕ) (inputs : List (List ℕ)) (files : List LinkFile) (verdict : Verdict)
    (none lines : List ℕ) (status : Status) → IsNodelistGiven nodelist list → AreLinkFiles inputs files → t ≡ upper tag
    → IsCheckVerdict files t verdict → (IsYes verdict → NewMessagesAreInOrder files t) → none ≡ [] → Pushes (IsVerdictShown files t list more verdict) none lines
    → status ≡ verdict_status verdict → IsChecked nodelist more tag inputs lines status
was_checked nodelist list more tag t inputs files verdict none lines status is_list are raised judged runs nothing pushed ended = grind (arith, of_same, alone, good_is_yes, yes_is_good)

-- link files have one reading
pub one_reading : (inputs : List (List ℕ)) (a b : List LinkFile) → AreLinkFiles inputs a → AreLinkFiles inputs b → a ≡ b
one_reading [] [] [] p q = refl
one_reading [] [] (y ∷ b) p q = absurd q
one_reading [] (x ∷ a) b p q = absurd p
one_reading (bytes ∷ inputs) [] b p q = absurd p
one_reading (bytes ∷ inputs) (x ∷ a) [] p q = absurd q
one_reading (bytes ∷ inputs) (x ∷ a) (y ∷ b) p q = ap (λ f. f ∷ a) (p.0.1 ∙ sym q.0.1) ∙ ap (λ l. y ∷ l) (one_reading inputs a b p.1 q.1)

-- a 0 holds for each run
pub headline : (nodelist : Option (List ℕ)) (more : Bool) (tag : List ℕ) (inputs : List (List ℕ)) (stopped : Option Fault) (old new : Output)
    (answer : Result Status Fault) → CheckAnswers nodelist more tag inputs stopped old new answer → answer ≡ Ok Good
    → (links : List LinkFile) → AreLinkFiles inputs links → Tidy links (upper tag) × NewMessagesAreInOrder links (upper tag)
headline nodelist more tag inputs stopped old new answer h1 h2 links h3 = grind (arith, one_reading)
