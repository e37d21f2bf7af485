-- The answer of a call about the messages of a base, which are read one by one or from a base file.
use Rattle.std.specs.Prelude.{ℕ, List, Result, Ok, Err}
use Rattle.{base_folder.specs.Fetching.IsUnread, cmd_status.specs.declared.fault.Fault.Fault}

-- A right answer, or a message of the base with this path could not be read.
abbrev pub AnswersReading : {A : Type 0} → (A → Type 0) → List ℕ → ℕ → ℕ → Result A Fault → Type 0
AnswersReading IsRight path before now (Ok right) = IsRight right
AnswersReading IsRight path before now (Err fault) = IsUnread path before now fault
