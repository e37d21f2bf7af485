-- The numbers of packets made, event by event.
use Rattle.std.specs.Prelude.{ℕ, List, [], ◌∷◌, length}
use Rattle.model_run.specs.{Event.RunEvent, Run.Run, Run.after_event}

-- The number of packets after each of these events, in order.
abbrev pub packet_counts : Run → List RunEvent → List ℕ
packet_counts run [] = []
packet_counts run (event ∷ later) = length (after_event run event).packets ∷ packet_counts (after_event run event) later
