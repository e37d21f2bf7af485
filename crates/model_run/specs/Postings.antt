-- One posting, and the events until the area is at rest.
use Rattle.std.specs.{Prelude.ℕ, Prelude.List, Prelude.[], Prelude.◌∷◌, Prelude.codes, List.AllByRecursion}
use Rattle.model_steps.specs.declared.{draft.Draft.Draft, stamp.Stamp.Stamp}
use Rattle.echo_links.specs.Links.{LinkFile}
use Rattle.model_run.specs.{Event.RunEvent, Event.Posting, Event.Scanning, Event.Delivery, Event.PartDelivery, Event.Purging, Run.run_of, Orderly.Settled}

-- An event that moves messages on: a scan, or a whole packet that arrives.
abbrev pub IsMove : RunEvent → Type 0
IsMove (Scanning system stamp) = Unit {0}
IsMove (Delivery packet) = Unit {0}
IsMove (Posting system tag draft serial stamp) = ⊥
IsMove (PartDelivery packet messages) = ⊥
IsMove (Purging system range) = ⊥

-- A message to all, with an empty body.
abbrev pub trial_draft : Draft
trial_draft = record { to_name = codes "All"; from_name = codes "Sysop"; subject = codes "00000001"; reply = []; body = [] }

-- Midnight, the first of January 2000.
abbrev pub trial_moment : Stamp
trial_moment = record { year = 2000; month = 1; day = 1; hour = 0; minute = 0; second = 0 }

-- The system of this index posts it in the area, under its first serial.
abbrev pub trial_posting : ℕ → List ℕ → RunEvent
trial_posting i tag = Posting i tag trial_draft 1 trial_moment

-- The system posts in this way, and scans with the same stamp.
abbrev pub post_and_scan : ℕ → List ℕ → List RunEvent
post_and_scan i tag = trial_posting i tag ∷ (Scanning i trial_moment ∷ [])

-- The system posts, and moves bring the area to rest.
pub record ComesToRest (files : List LinkFile) (tag : List ℕ) (i : ℕ) (moves : List RunEvent) : Type 0 where
  pub only_moves : AllByRecursion IsMove moves
  pub settled : Settled (run_of files (trial_posting i tag ∷ moves)) tag
