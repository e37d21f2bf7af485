-- The copies that a scan makes of waiting messages, and those made again.
use Rattle.std.specs.Prelude.{◌≡◌, ℕ, Bool, true, false, List, [], ◌∷◌, ◌++◌, map, filter, slice_get, Some}
use Rattle.std.specs.List.{flat_map, list_any}
use Rattle.model_steps.specs.{declared.packet.Packet.Packet, declared.stamp.Stamp.Stamp, Resending.is_resent, Scanning.copy_to, Scanning.header_to, Scanning.targets}
use Rattle.echo_addr.specs.declared.address.Address.{Address}
use Rattle.echo_packet.specs.Message.{Message, readdressed}
use Rattle.echo_links.specs.Links.{LinkFile, same_address}
use Rattle.echo_filed.specs.{Filed.Filed, Sets.address_set}

-- The address of a message that has no receiver yet.
abbrev pub nowhere : Address
nowhere = record { zone = 0; net = 0; node = 0 }

-- An outgoing message without an address, and its receivers as a set.
pub record OutgoingMessage : Type 0 where
  pub message : Message
  pub targets : List Address

-- The outgoing form of a message.
abbrev pub outgoing_of : LinkFile → Filed → OutgoingMessage
outgoing_of file m = record { message = copy_to file nowhere m; targets = address_set (targets file m) }

abbrev pub has_some : List Address → Bool
has_some [] = false
has_some (address ∷ more) = true

abbrev pub is_sent : OutgoingMessage → Bool
is_sent o = has_some o.targets

-- Of these messages, the outgoing forms that have receivers.
abbrev pub sent_of : LinkFile → List Filed → List OutgoingMessage
sent_of file messages = filter is_sent (map (outgoing_of file) messages)

-- The list grew by the outgoing form of the message of this number, if that has receivers.
abbrev pub GrowsByMessageAt : LinkFile → List Filed → ℕ → List OutgoingMessage → List OutgoingMessage → Type 0
GrowsByMessageAt file messages place old new = (m : Filed) × (slice_get messages place ≡ Some m) × (new ≡ old ++ sent_of file (m ∷ []))

-- The list grew by the copy of the message of this number, if it is sent again.
abbrev pub IsResentAt : LinkFile → List ℕ → Address → List Filed → ℕ → List Message → List Message → Type 0
IsResentAt file area to messages place old new =
    (m : Filed) × (slice_get messages place ≡ Some m) × (new ≡ old ++ map (copy_to file to) (filter (is_resent file area to) (m ∷ [])))

abbrev pub copy_out : Address → OutgoingMessage → Message
copy_out address o = readdressed o.message address.node address.net

abbrev pub goes_out : Address → OutgoingMessage → Bool
goes_out address o = list_any (same_address address) o.targets

abbrev pub packet_out : LinkFile → Stamp → List OutgoingMessage → Address → Packet
packet_out file stamp all address = record {
  header = header_to file stamp address;
  messages = map (copy_out address) (filter (goes_out address) all);
}

-- One packet for each address that receives some messages.
abbrev pub packets_out : LinkFile → Stamp → List OutgoingMessage → List Packet
packets_out file stamp all = map (packet_out file stamp all) (address_set (flat_map (λ o. o.targets) all))
