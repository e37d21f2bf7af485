-- A packet that came before brings nothing new.
use Rattle.std.specs.Prelude.{◌≡◌, ◌<◌, ⊤, ℕ, List, [], ◌∷◌, length, Some, None}
use Rattle.echo_addr.specs.declared.address.Address.{Address}
use Rattle.model_graph.specs.Walk.{Among}
use Rattle.echo_packet.specs.Message.{Message}
use Rattle.echo_links.specs.Links.{LinkFile}
use Rattle.echo_filed.specs.Filed.{Filed}
use Rattle.model_steps.specs.{declared.packet.Packet.Packet, Tossing.sender_of, Tossing.tossing}
use Rattle.model_run.specs.Run.{Run, System, nth, receiver}

-- No message in this list, from one sender, would be filed.
abbrev pub NoneIsFiled : LinkFile → List Filed → Address → List Message → Type 0
NoneIsFiled file base sender [] = ⊤
NoneIsFiled file base sender (packed ∷ later) = (tossing file base sender packed ≡ None) × NoneIsFiled file base sender later

-- A system would file nothing of the packet.
abbrev pub HasTaken : System → Packet → Type 0
HasTaken s packet = NoneIsFiled s.file s.base (sender_of s.file packet.header) packet.messages

-- Each delivered packet exists, and its system would file nothing more of it.
pub record AreTaken (run : Run) : Type 0 where
  pub there : (k : ℕ) → Among k run.delivered → k < length run.packets
  pub taken : (k : ℕ) (packet : Packet) (s : System) → Among k run.delivered → nth k run.packets ≡ Some packet
      → nth (receiver run packet) run.systems ≡ Some s → HasTaken s packet
