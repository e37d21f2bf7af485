-- A packet that is made again of a base file.
use Rattle.std.specs.Prelude.{◌≡◌, ◌≤◌, ◌<◌, ℕ, ◌⊎◌, true, false, List, [], ◌∷◌, length, map, min, filter, Option, Some, None, Result, Ok, Err}
use Rattle.{base_file.specs.Base.Base, base_folder.specs.{Fetching.IsUnread, Source.SourceState}, echo_addr.specs.declared.address.Address.Address}
use Rattle.{echo_filed.specs.Filed.Filed, echo_packet.specs.Message.Message, echo_links.specs.Links.{LinkFile, upper}}
use Rattle.model_steps.specs.{declared.{fault.ScanFault.TheVariants.BadStamp, packet.Packet.Packet, stamp.Stamp.Stamp}, Resending.{is_resent, resent_packet}}
use Rattle.{model_steps.specs.{Scanning.copy_to, Stamps.is_stamp}, cmd_status.specs.declared.fault.Fault.{Fault, TheVariants.Scan}}

-- The packet made again from the messages of a base.
pub record IsMadeOf (file : LinkFile) (stamp : Stamp) (area : List ℕ) (to : Address) (first : ℕ) (base : Base) (packet : Packet) : Type 0 where
  pub moment : is_stamp stamp ≡ true
  pub packet_is : packet ≡ resent_packet file stamp (upper area) to first base.messages base.cursor

-- A right packet, or the fault of the stamp, or a message of the base with this path could not be read.
abbrev pub ResendsReading : Stamp → (Packet → Type 0) → List ℕ → ℕ → ℕ → Result Packet Fault → Type 0
ResendsReading stamp IsRight path before now (Ok packet) = IsRight packet
ResendsReading stamp IsRight path before now (Err fault) = IsUnread path before now fault ⊎ ((fault ≡ Scan BadStamp) × (is_stamp stamp ≡ false))

abbrev pub copies_at : LinkFile → List ℕ → Address → Option Filed → List Message
copies_at file area to None = []
copies_at file area to (Some m) = map (copy_to file to) (filter (is_resent file area to) (m ∷ []))

-- All messages from one number up to another are no damage.
abbrev pub AreLegibleFrom : SourceState → ℕ → ℕ → Type 0
AreLegibleFrom s first n = (i : ℕ) → first ≤ i → i < n → s.legible i

-- All messages from one number up to the first that waits are no damage.
pub record AreLegibleToCursor (s : SourceState) (first : ℕ) : Type 0 where
  pub end : ℕ
  pub is : (base : Base) → s.holds base → end ≡ min base.cursor (length base.messages)
  pub read : AreLegibleFrom s first end
