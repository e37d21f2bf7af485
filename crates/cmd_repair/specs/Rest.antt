-- What a repair sends, in the terms of the model.
use Rattle.std.specs.{Prelude.{◌≡◌, ℕ, List, Option, Some}, Io.KnownBytes.Appends}
use Rattle.base_file.specs.Base.{Base}
use Rattle.{echo_addr.specs.declared.address.Address.Address, echo_filed.specs.Filed.Filed, echo_links.specs.Links.LinkFile, echo_packet.specs.Header.AreBytes}
use Rattle.{echo_packet.specs.Packet.packet_bytes, echo_text.specs.Echo.msgid_of, model_graph.specs.Walk.Among, model_run.specs.Repair.rest_packet}
use Rattle.model_steps.specs.declared.{packet.Packet.Packet, stamp.Stamp.Stamp}

abbrev pub bytes_sent : Packet → List ℕ
bytes_sent p = packet_bytes p.header p.messages

-- The sink got the model's packet of all that a list of these ids does not name.
abbrev pub SendsRest : LinkFile → Stamp → List ℕ → Address → List (List ℕ) → Base → Option (List ℕ) → Option (List ℕ) → Type 0
SendsRest file stamp area to held base old new = Appends old new (bytes_sent (rest_packet file stamp area to held base.messages))

-- The ids of these messages are bytes.
abbrev pub HaveByteIds : List Filed → Type 0
HaveByteIds messages = (m : Filed) → Among m messages → (id : List ℕ) → msgid_of m.echo.kept ≡ Some id → AreBytes id
