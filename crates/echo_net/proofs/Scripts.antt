-- Reading a script line by line.
use Rattle.std.proofs.Common.{◌≡◌, ◌⊎◌, ℕ, ◌+◌, not, true, false, cond, List, [], ◌∷◌, ◌++◌, ap, ◌∙◌, Option, Some, None, Result, Ok, Err, arith}
use Rattle.std.proofs.lemmas.List.{append_assoc, append-nil, Elements.filter-append, Elements.filter_map-append}
use Rattle.std.specs.{Prelude.MatchResult, Prelude.is_some, List.cons_option, List.filter_map}
use Rattle.echo_links.{specs.LinkLines.{file_lines, is_skipped}, proofs.LinkBytes.no_lines_left}
use Rattle.model_run.specs.declared.event.Event.{Event}
use Rattle.echo_net.specs.{Script.ScriptOf, Script.event_in, Script.events_in, Script.events_of, Script.first_script_fault, Script.script_line_fault, Script.script_fault, declared.script.ScriptFault.ScriptFault}
use Rattle.echo_net.specs.declared.script.ScriptFault.TheVariants as fault

-- ---- one line

module _ (number : ℕ) (line : List ℕ) where
  pub skipped_fault : is_skipped line ≡ true → script_line_fault number line ≡ None
  skipped_fault h = ap (λ b. cond b None (cond (is_some (event_in line)) None (Some (fault.Line number)))) h

  pub skipped_events : is_skipped line ≡ true → events_in (line ∷ []) ≡ []
  skipped_events h = ap (λ b. filter_map event_in (cond (not b) (line ∷ []) [])) h

  pub event_fault : (event : Event) → is_skipped line ≡ false → event_in line ≡ Some event → script_line_fault number line ≡ None
  event_fault event h is = grind arith

  pub event_events : (event : Event) → is_skipped line ≡ false → event_in line ≡ Some event → events_in (line ∷ []) ≡ event ∷ []
  event_events event h is = ap (λ b. filter_map event_in (cond (not b) (line ∷ []) [])) h ∙ ap (λ (o : Option Event). cons_option o []) is

  pub other_fault : is_skipped line ≡ false → event_in line ≡ None → script_line_fault number line ≡ Some (fault.Line number)
  other_fault h is = grind arith

-- ---- all lines

pub record LinesTaken (bytes : List ℕ) (number : ℕ) (rest : List ℕ) (events : List Event) : Type 0 where
  pub faults : first_script_fault 1 (file_lines bytes) ≡ first_script_fault (number + 1) (file_lines rest)
  pub whole : events_in (file_lines bytes) ≡ events ++ events_in (file_lines rest)

events_next : (line : List ℕ) (later : List (List ℕ)) → events_in (line ∷ later) ≡ events_in (line ∷ []) ++ events_in later
events_next line later = grind (arith, filter-append, filter_map-append)

module _ (bytes rest line after : List ℕ) (number : ℕ) (events : List Event) (h : LinesTaken bytes number rest events) (next : file_lines rest ≡ line ∷ file_lines after) where
  pub lines_more : (new : List Event) → script_line_fault (number + 1) line ≡ None → new ≡ events ++ events_in (line ∷ []) → LinesTaken bytes (number + 1) after new
  lines_more new fine is = grind (arith, events_next, append_assoc)

  pub lines_other : (refused : ScriptFault) → script_line_fault (number + 1) line ≡ Some refused → script_fault bytes ≡ Some refused
  unfolding script_fault
  lines_other refused bad = grind arith

pub lines_done : (bytes : List ℕ) (number : ℕ) (rest : List ℕ) (events : List Event) → LinesTaken bytes number rest events → rest ≡ []
    → ScriptOf bytes (Ok events)
unfolding script_fault events_of
lines_done bytes number rest events h nothing = grind (arith, no_lines_left, append-nil)

one_answer : (bytes : List ℕ) (answer other : Result (List Event) ScriptFault) → ScriptOf bytes answer → ScriptOf bytes other → other ≡ answer
one_answer bytes answer other h1 h2 = grind arith

pub only_answer : {V : Type 0} (items : V → List Event) (bytes : List ℕ) (answer : Result V ScriptFault)
    → MatchResult answer (λ v. ScriptOf bytes (Ok (items v))) (λ f. (f ≡ fault.Memory) ⊎ ScriptOf bytes (Err f)) → (other : Result (List Event) ScriptFault)
    → ScriptOf bytes other → MatchResult answer (λ v. other ≡ Ok (items v)) (λ f. (f ≡ fault.Memory) ⊎ (other ≡ Err f))
only_answer items bytes answer h1 other h2 = grind (arith, one_answer)
