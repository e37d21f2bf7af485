-- One posting and the moves after it, as events of a run.
use Rattle.std.specs.Prelude.{ℕ, List, ◌∷◌, map}
use Rattle.{echo_links.specs.Links.LinkFile, model_run.specs.{Event.{RunEvent, Delivery, Scanning}, Run.{Run, run_of}}}
use Rattle.{model_run.specs.Postings.{trial_moment, trial_posting}, model_plan.specs.declared.plan.Move.{Move, TheVariants.{Deliver, Scan}}}

-- A move as an event of a run. Each scan has the timestamp of the posting.
abbrev pub run_move : Move → RunEvent
run_move (Scan system) = Scanning system trial_moment
run_move (Deliver packet) = Delivery packet

-- The system of this index posts in the area, and the moves follow.
abbrev pub posting_and_moves : ℕ → List ℕ → List Move → List RunEvent
posting_and_moves poster tag moves = trial_posting poster tag ∷ map run_move moves

abbrev pub shown_run : List LinkFile → ℕ → List ℕ → List Move → Run
shown_run files poster tag moves = run_of files (posting_and_moves poster tag moves)
