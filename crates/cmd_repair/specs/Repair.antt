-- A packet of all messages of an area for one link.
use Rattle.std.specs.Prelude.{◌≡◌, ◌⊎◌, ℕ, ◌<◌, ◌≤◌, ◌&&◌, not, Bool, true, false, List, [], ◌∷◌, ◌++◌, ◌+◌, codes, length, drop, map, filter, bytes_eq, Option, Some, None}
use Rattle.std.specs.{List.list_any, Io.KnownBytes.Appends}
use Rattle.{base_file.specs.Base.Base, base_folder.specs.{Fetching.IsUnread, Source.SourceState}}
use Rattle.{disk_io.specs.Device.Failed, echo_addr.specs.{declared.address.Address.Address, Address.address_text}, echo_charset.specs.Escaped.escaped}
use Rattle.{echo_filed.specs.Filed.Filed, echo_links.specs.Links.LinkFile, echo_packet.specs.{Message.{Message, messages_bytes}, Packet.packet_bytes}}
use Rattle.{echo_text.specs.Echo.msgid_of, echo_steps.specs.declared.counting.CountedPacket.CountedPacket}
use Rattle.model_steps.specs.{declared.{fault.ScanFault.TheVariants.BadStamp, packet.Packet.Packet, stamp.Stamp.Stamp}, Resending.is_whole_in}
use Rattle.{model_steps.specs.{Scanning.{copy_to, header_to}, Stamps.is_stamp}, cmd_status.specs.{declared.fault.Fault.TheVariants.Scan, Ended.IsOutOfMemory}}
use Rattle.cmd_repair.specs.declared.send_fault.SendFault.{SendFault, TheVariants.{Messages, Device}}

-- Whether a list of words names the id. A message without an id is in no list.
abbrev pub is_named : List (List ℕ) → Option (List ℕ) → Bool
is_named words None = false
is_named words (Some id) = list_any (bytes_eq (escaped id)) words

-- Whether the receiver has the message by its list, if it gave one.
abbrev pub is_held : Option (List (List ℕ)) → Filed → Bool
is_held None m = false
is_held (Some words) m = is_named words (msgid_of m.echo.kept)

-- The message is sent: it is in the area and has its text, and the list of the receiver does not name it.
abbrev pub is_sent : Option (List (List ℕ)) → List ℕ → Filed → Bool
is_sent held area m = is_whole_in area m && not (is_held held m)

-- The copies of these messages for the address, as scans export them.
abbrev pub sent_copies : LinkFile → List ℕ → Address → Option (List (List ℕ)) → List Filed → List Message
sent_copies file area to held messages = map (copy_to file to) (filter (is_sent held area) messages)

-- The packet of those of a base from this number on.
abbrev pub repair_packet : LinkFile → Stamp → List ℕ → Address → ℕ → Option (List (List ℕ)) → List Filed → Packet
repair_packet file stamp area to first held base = record { header = header_to file stamp to; messages = sent_copies file area to held (drop first base) }

-- That packet, counted.
abbrev pub counted_packet : Address → Packet → CountedPacket
counted_packet to p = record { to = to; messages = length p.messages; bytes = length (packet_bytes p.header p.messages) }

-- The sink got just the bytes of the packet, which is counted.
pub record SendsPacket (file : LinkFile) (stamp : Stamp) (area : List ℕ) (to : Address) (first : ℕ) (held : Option (List (List ℕ))) (base : Base) (old new : Option (List ℕ)) (counted : CountedPacket) : Type 0 where
  pub moment : is_stamp stamp ≡ true
  pub written : Appends old new (packet_bytes (header_to file stamp to) (repair_packet file stamp area to first held base.messages).messages)
  pub counted_is : counted ≡ counted_packet to (repair_packet file stamp area to first held base.messages)

-- All messages of the source from one number up to another are no damage.
abbrev pub AreLegibleFrom : SourceState → ℕ → ℕ → Type 0
AreLegibleFrom s first n = (i : ℕ) → first ≤ i → i < n → s.legible i

-- Why a packet is not sent: a message of the base with this path was not read, or the sink failed.
abbrev pub IsUndone : List ℕ → ℕ → ℕ → ℕ → ℕ → SendFault → Type 0
IsUndone path before now old new (Messages fault) = IsUnread path before now fault × (new ≡ old)
IsUndone path before now old new Device = Failed old new

-- Why sending stopped at one message, which was read.
abbrev pub IsStopped : ℕ → ℕ → SendFault → Type 0
IsStopped old new (Messages fault) = IsOutOfMemory fault × (new ≡ old)
IsStopped old new Device = Failed old new

-- Why a packet is not sent, a bad stamp included.
abbrev pub IsUnsent : Stamp → List ℕ → ℕ → ℕ → ℕ → ℕ → SendFault → Type 0
IsUnsent stamp path before now old new fault = IsUndone path before now old new fault ⊎ ((fault ≡ Messages (Scan BadStamp)) × (is_stamp stamp ≡ false))

abbrev pub copies_at : LinkFile → List ℕ → Address → Option (List (List ℕ)) → Option Filed → List Message
copies_at file area to held None = []
copies_at file area to held (Some m) = sent_copies file area to held (m ∷ [])

-- A packet without messages, counted, and one with these copies more.
abbrev pub nothing_counted : Address → CountedPacket
nothing_counted to = record { to = to; messages = 0; bytes = 60 }

abbrev pub counted_with_copies : List Message → CountedPacket → CountedPacket
counted_with_copies copies p = record { to = p.to; messages = p.messages + length copies; bytes = p.bytes + length (messages_bytes copies) }

abbrev pub nothing_line : Address → List ℕ
nothing_line to = codes "nothing for " ++ (address_text to ++ codes "\n")
