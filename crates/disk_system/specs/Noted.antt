-- The record of one call in the trace.
use Rattle.std.specs.Prelude.{ℕ, List, [], ◌∷◌}
use Rattle.disk_system.specs.declared.trace.Call.{Call}

-- The numbers of a call, with the answer last, a path, another path, and bytes.
abbrev pub note_of : Call → List ℕ × (List ℕ × (List ℕ × List ℕ))
note_of call = (call.what ∷ call.at ∷ call.asked ∷ call.answer ∷ [], (call.path.now, (call.other.now, call.bytes.now)))
