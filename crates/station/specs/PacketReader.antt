-- The state of a packet file's reader.
use Rattle.std.specs.Prelude.{◌≡◌, ◌⊎◌, ℕ, List, [], ◌∷◌, Option, Some, None, Result, Ok, Err}
use Rattle.{cmd_status.specs.declared.fault.Fault.Fault, cmd_store.specs.Coming.{Coming, Opens}}
use Rattle.station.specs.declared.packet_reader.PacketSource.{PacketSource, TheVariants.{Held, Streamed}}

-- The bytes left to read, if they are known.
abbrev pub held_remaining : {R : Type 0} → (R → Option (List ℕ)) → PacketSource R → Option (List ℕ)
held_remaining remaining (Held bytes) = Some bytes
held_remaining remaining (Streamed reader) = remaining reader

-- The number of the device's failures; memory never fails.
abbrev pub held_failures : {R : Type 0} → (R → ℕ) → PacketSource R → ℕ
held_failures failures (Held bytes) = 0
held_failures failures (Streamed reader) = failures reader

-- The bytes already in memory.
abbrev pub held_front : {R : Type 0} → (R → List ℕ) → PacketSource R → List ℕ
held_front front (Held bytes) = bytes
held_front front (Streamed reader) = front reader

-- Memory holds nothing of the packet file.
abbrev pub IsUnheld : {R : Type 0} → Result (PacketSource R) Fault → Type 0
IsUnheld (Ok (Held bytes)) = ⊥
IsUnheld (Ok (Streamed reader)) = Unit {0}
IsUnheld (Err fault) = Unit {0}

-- The result fits the file. Or the disk failed in this call, and memory holds nothing of the file.
abbrev pub OpensHere : {R : Type 0} → Type 0 → (R → Option (List ℕ)) → Coming → Result (PacketSource R) Fault → Type 0
OpensHere failed remaining file answer = Opens (held_remaining remaining) file answer ⊎ (failed × IsUnheld answer)

-- The call opened the first of these files so if the disk was honest, and the later ones remain.
abbrev pub OpensFirst : {R : Type 0} → Type 0 → Type 0 → (R → Option (List ℕ)) → List Coming → List Coming → Option (Result (PacketSource R) Fault) → Type 0
OpensFirst honest failed remaining [] left None = left ≡ []
OpensFirst honest failed remaining [] left (Some answer) = ⊥
OpensFirst honest failed remaining (file ∷ later) left None = ⊥
OpensFirst honest failed remaining (file ∷ later) left (Some answer) = (left ≡ later) × (honest → OpensHere failed remaining file answer)
