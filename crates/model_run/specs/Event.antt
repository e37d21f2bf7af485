-- Events of a net of tossers.
use Rattle.std.specs.Prelude.{ℕ, List}
use Rattle.base_file.specs.{Purging.whole, declared.range.PurgeRange.PurgeRange}
use Rattle.model_steps.specs.declared.{draft.Draft.Draft, stamp.Stamp.Stamp}
use Rattle.model_run.specs.declared.event.Event.{Event, TheVariants.Deliver, TheVariants.Post, TheVariants.Purge, TheVariants.Scan}

-- A system posts, scans or purges; a packet comes, or its toss stops after its first messages. An index names a system
-- in the list of files, or a packet in order of export.
pub data RunEvent : Type 0 where
  Posting : (system : ℕ) (tag : List ℕ) (draft : Draft) (serial : ℕ) (stamp : Stamp) → RunEvent
  Scanning : (system : ℕ) (stamp : Stamp) → RunEvent
  Delivery : (packet : ℕ) → RunEvent
  PartDelivery : (packet messages : ℕ) → RunEvent
  Purging : (system : ℕ) (range : PurgeRange) → RunEvent

-- An event of the program as an event of a run: its purge reaches all scanned messages.
abbrev pub run_event : Event → RunEvent
run_event (Post system tag draft serial stamp) = Posting system tag draft serial stamp
run_event (Scan system stamp) = Scanning system stamp
run_event (Deliver packet) = Delivery packet
run_event (Purge system) = Purging system whole
