-- Packets made again from scanned messages.
use Rattle.std.specs.Prelude.{ℕ, ◌&&◌, not, Bool, List, map, filter, take, drop, bytes_eq, is_some}
use Rattle.echo_addr.specs.declared.address.Address.{Address}
use Rattle.echo_packet.specs.Message.{Message}
use Rattle.echo_text.specs.Echo.{msgid_of}
use Rattle.echo_links.specs.Links.{LinkFile}
use Rattle.echo_filed.specs.{Filed.Filed, Stubs.is_stub}
use Rattle.model_steps.specs.{declared.packet.Packet.Packet, declared.stamp.Stamp.Stamp, Scanning.copy_to, Scanning.goes_to, Scanning.header_to}

-- The message belongs to the area, and no purge removed its text.
abbrev pub is_whole_in : List ℕ → Filed → Bool
is_whole_in area m = bytes_eq m.echo.tag area && not (is_some (msgid_of m.echo.kept) && is_stub m)

-- The message is sent again to the address: it has its text, and the address is one of its targets.
abbrev pub is_resent : LinkFile → List ℕ → Address → Filed → Bool
is_resent file area to m = is_whole_in area m && goes_to file to m

-- The scanned messages of a base from this number on.
abbrev pub scanned_from : ℕ → List Filed → ℕ → List Filed
scanned_from first base cursor = drop first (take cursor base)

-- The copies of these messages for the address, as scans export them.
abbrev pub resent : LinkFile → List ℕ → Address → ℕ → List Filed → ℕ → List Message
resent file area to first base cursor = map (copy_to file to) (filter (is_resent file area to) (scanned_from first base cursor))

abbrev pub resent_packet : LinkFile → Stamp → List ℕ → Address → ℕ → List Filed → ℕ → Packet
resent_packet file stamp area to first base cursor = record {
  header = header_to file stamp to;
  messages = resent file area to first base cursor;
}
