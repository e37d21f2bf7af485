-- The answer of `replay`, from those of its parts.
use Rattle.{std.proofs.{Common.{◌≡◌, ℕ, List, [], ◌++◌, length, map, sym, ap, ◌∙◌, Ok}, lemmas.List.length-map}, echo_links.specs.Links.LinkFile}
use Rattle.model_run.{specs.{Event.{RunEvent, run_event}, Run.{Run, System, run_of}, declared.event.Event.Event}, proofs.HarmSteps.run-files as run_files}
use Rattle.{echo_net.specs.{Script.ScriptOf, Worlds.{IsWorldOf, WorldState}}, cmd_status.specs.declared.status.Status.{Status, TheVariants.Good}}
use Rattle.{cmd_status.{specs.Inputs.AreLinkFiles, proofs.Lines.alone}, cmd_why.specs.{Replaying.{AreWorldLines, IsReplayed}, Replayed.replay_lines}}

pub run_length : (files : List LinkFile) (events : List RunEvent) → length (run_of files events).systems ≡ length files
run_length files events = sym (length-map (run_of files events).systems (λ (s : System). s.file)) ∙ ap length (run_files files events)

-- the lines of a replay
pub was_replayed : (script : List ℕ) (inputs : List (List ℕ)) (events : List Event) (files : List LinkFile) (world : WorldState) (systems : ℕ)
    (lines : List ℕ) (status : Status) → ScriptOf script (Ok events) → AreLinkFiles inputs files → systems ≡ length files
    → IsWorldOf world (run_of files (map run_event events)) → AreWorldLines systems world lines → status ≡ Good → IsReplayed script inputs lines status
was_replayed script inputs events files world systems lines status script-of are many is printed good =
    let run : Run = run_of files (map run_event events) in
    record {
      events = events;
      are_events = script-of;
      files = files;
      are_files = are;
      printed = printed run is (run_length files (map run_event events) ∙ sym many)
          ∙ ap (λ (f : List LinkFile). replay_lines f run) (run_files files (map run_event events));
      status_is = good;
    }

-- lines after no other lines
pub world_alone : (systems : ℕ) (world : WorldState) (none lines : List ℕ) → none ≡ []
    → ((run : Run) → IsWorldOf world run → length run.systems ≡ systems → lines ≡ none ++ replay_lines (map (λ (s : System). s.file) run.systems) run)
    → AreWorldLines systems world lines
world_alone systems world none lines nothing pushed =
    λ run is many. alone none lines (replay_lines (map (λ (s : System). s.file) run.systems) run) nothing (pushed run is many)
