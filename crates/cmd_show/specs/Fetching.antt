-- The end of a command that reads messages one by one while it prints.
use Rattle.std.specs.Prelude.{◌≡◌, ◌⊎◌, ◌≤◌, ◌<◌, ℕ, List}
use Rattle.{base_folder.specs.{Fetching.CannotRead, Source.SourceState}, cmd_status.specs.{declared.fault.Fault.Fault, Ended.Stops}}

-- The command stops without a fault of the base: standard output failed, memory ran out, or a read failed.
abbrev pub StopsReading : List ℕ → ℕ → ℕ → ℕ → ℕ → Fault → Type 0
StopsReading path before after printed now fault = Stops printed now fault ⊎ (CannotRead path before after fault × (now ≡ printed))

-- All messages from this number up to another are no damage.
abbrev pub AreLegibleBetween : SourceState → ℕ → ℕ → Type 0
AreLegibleBetween s first end = (i : ℕ) → first ≤ i → i < end → s.legible i

-- All messages from this number on are no damage.
abbrev pub AreLegibleFrom : SourceState → ℕ → Type 0
AreLegibleFrom s first = AreLegibleBetween s first s.count
