-- The answer of `replay`.
use Rattle.std.specs.Prelude.{◌≡◌, ℕ, ◌⊎◌, List, length, map, Option, Some, None, Result, Ok, Err}
use Rattle.cmd_status.specs.Devices.{Output}
use Rattle.cmd_status.specs.{declared.{fault.Fault.{Fault, TheVariants.ScriptLine}, status.Status.{Status, TheVariants.Good}}, Ended.Answers}
use Rattle.{cmd_status.specs.Inputs.{AreLinkFiles, IsLinkFault}, echo_links.specs.Links.LinkFile, model_run.specs.{declared.event.Event.Event, Event.run_event}}
use Rattle.{model_run.specs.Run.{Run, System, run_of}, echo_net.specs.{declared.script.ScriptFault.TheVariants.Line, Script.ScriptOf}}
use Rattle.{echo_net.specs.Worlds.{IsWorldOf, WorldState}, cmd_why.specs.Replayed.replay_lines}

-- Neither the script nor a link file has a fault. These are the lines for the run of its events on them.
pub record IsReplayed (script : List ℕ) (inputs : List (List ℕ)) (lines : List ℕ) (status : Status) : Type 0 where
  pub events : List Event
  pub are_events : ScriptOf script (Ok events)
  pub files : List LinkFile
  pub are_files : AreLinkFiles inputs files
  pub printed : lines ≡ replay_lines files (run_of files (map run_event events))
  pub status_is : status ≡ Good

-- The first line of the script that has another form.
abbrev pub IsScriptFault : List ℕ → Fault → Type 0
IsScriptFault script fault = (line : ℕ) × (fault ≡ ScriptLine line) × ScriptOf script (Err (Line line))

-- The first fault of a script and link files, in this order, and of the reading of files that stopped after them.
abbrev pub IsFirstFaultReplayed : List ℕ → List (List ℕ) → Option Fault → Fault → Type 0
IsFirstFaultReplayed script inputs stopped fault =
    IsScriptFault script fault
    ⊎ (((events : List Event) × ScriptOf script (Ok events) × IsLinkFault inputs fault)
    ⊎ ((events : List Event) × (files : List LinkFile) × ScriptOf script (Ok events) × AreLinkFiles inputs files × (stopped ≡ Some fault)))

-- The lines are those of each run of this many systems that the net shows.
abbrev pub AreWorldLines : ℕ → WorldState → List ℕ → Type 0
AreWorldLines systems world lines =
    (run : Run) → IsWorldOf world run → length run.systems ≡ systems → lines ≡ replay_lines (map (λ (s : System). s.file) run.systems) run

-- The right result of printing a net.
abbrev pub PrintsWorld : ℕ → WorldState → Output → Output → Result Status Fault → Type 0
PrintsWorld systems world old new answer = Answers (λ lines status. AreWorldLines systems world lines × (status ≡ Good)) (λ fault. ⊥) old new answer

-- The right result of replaying a script.
abbrev pub ReplayAnswers : List ℕ → List (List ℕ) → Option Fault → Output → Output → Result Status Fault → Type 0
ReplayAnswers script inputs stopped old new answer =
    Answers (λ lines status. IsReplayed script inputs lines status × (stopped ≡ None)) (IsFirstFaultReplayed script inputs stopped) old new answer
