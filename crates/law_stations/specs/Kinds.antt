-- Kinds of commands; the command may depend on the base.
use Rattle.std.specs.Prelude.{◌≡◌, ℕ, List}
use Rattle.base_file.specs.declared.range.PurgeRange.{PurgeRange}
use Rattle.cmd_store.specs.{declared.drafting.NewMessage.NewMessage, Serials.with_serial}
use Rattle.law_stations.specs.Commands.{Command, Post, Purge, Toss}

-- The posting of these words.
abbrev pub IsPost : NewMessage → List ℕ → Command → Type 0
IsPost words body command = command ≡ Post words body

-- The posting of these words with some serial.
abbrev pub IsPostWith : NewMessage → List ℕ → Command → Type 0
IsPostWith words body command = (serial : ℕ) × (command ≡ Post (with_serial words serial) body)

-- The purge of this range.
abbrev pub IsPurge : PurgeRange → Command → Type 0
IsPurge range command = command ≡ Purge range

-- The toss of the packets with these indexes.
abbrev pub IsToss : List ℕ → Command → Type 0
IsToss indexes command = command ≡ Toss indexes
