-- The part of a run that a replay keeps: the systems without their histories, and the packets as bytes.
use Rattle.std.specs.Prelude.{◌≡◌, ◌+◌, ◌-◌, ◌^◌, ◌<◌, ◌==◌, ℕ, nat_lt, Bool, true, false, if◌then◌else◌, MatchOption, Option, Some, List, [], ◌∷◌, ◌++◌, map, length, slice_get, option_map, unwrap_or, None}
use Rattle.std.specs.{List.All, List.list_any, List.position_or_len, Map.lookup}
use Rattle.echo_addr.specs.declared.address.Address.{Address}
use Rattle.model_graph.specs.Walk.{Among}
use Rattle.echo_packet.specs.{Packet.PacketOf, Packet.packet_bytes, declared.limits.Limits.Limits}
use Rattle.echo_links.specs.Links.{same_address}
use Rattle.{base_file.specs.Purging.whole, echo_filed.specs.Filed.Filed}
use Rattle.model_steps.specs.{declared.packet.Packet.Packet, declared.stamp.Stamp.Stamp, declared.draft.Draft.Draft, SystemState.SystemState, SystemState.state_with, Posting.posting, Purging.purged, Scanning.scanned, Stamps.is_stamp, Tossing.sender_of, Tossing.tossed}
use Rattle.model_run.specs.Run.{Run, System, change, destination, nth}
pub use Rattle.model_run.specs.Run.{state_of}

-- An exported packet: its bytes, its destination, and whether it came.
pub record Exported : Type 0 where
  pub bytes : List ℕ
  pub to : Address
  pub came : Bool

-- The systems in order of their files, and the packets in order of export.
pub record WorldState : Type 0 where
  pub systems : List SystemState
  pub packets : List Exported

abbrev pub encoded : Packet → List ℕ
encoded packet = packet_bytes packet.header packet.messages

-- A packet, and whether its index is among the delivered ones.
abbrev pub exported_packet : List ℕ → ℕ → Packet → Exported
exported_packet delivered k packet = record { bytes = encoded packet; to = destination packet; came = list_any (λ d. d == k) delivered }

-- Packets; the first of them has this index.
abbrev pub exported_from : List ℕ → ℕ → List Packet → List Exported
exported_from delivered k [] = []
exported_from delivered k (packet ∷ later) = exported_packet delivered k packet ∷ exported_from delivered (k + 1) later

-- A packet just made.
abbrev pub made : Packet → Exported
made packet = record { bytes = encoded packet; to = destination packet; came = false }

-- The greatest limits.
abbrev pub unlimited : Limits
unlimited = record { text = 2 ^ 64 - 1; messages = 2 ^ 64 - 1 }

-- The packet's bytes are a packet of its header and messages.
abbrev pub Fits : Packet → Type 0
Fits packet = PacketOf unlimited packet.header packet.messages (encoded packet)

-- The world is that of the run: its systems, and its packets as bytes with their deliveries.
pub record IsWorldOf (world : WorldState) (run : Run) : Type 0 where
  pub systems : world.systems ≡ map state_of run.systems
  pub packets : world.packets ≡ exported_from run.delivered 0 run.packets
  pub fit : All Fits run.packets
  pub delivered : (k : ℕ) → Among k run.delivered → k < length run.packets

abbrev pub message_at : Run → ℕ → ℕ → Option Filed
message_at run i number = unwrap_or (option_map (λ s. slice_get s.base number) (nth i run.systems)) None

-- The answer for the system with an index exists exactly if the system does, and then the property holds for both.
abbrev pub OfSystem : {A : Type 0} → Option A → Option System → (A → System → Type 0) → Type 0
OfSystem None None Holds = Unit {0}
OfSystem None (Some s) Holds = ⊥
OfSystem (Some answer) None Holds = ⊥
OfSystem (Some answer) (Some s) Holds = Holds answer s

-- A look-up found the first index that passes, or none passes.
abbrev pub IsFirst : Option ℕ → (Address → Bool) → List Address → Type 0
IsFirst found passes systems =
    MatchOption found (position_or_len passes systems ≡ length systems) (λ i. (i ≡ position_or_len passes systems) × (i < length systems))

-- The entries lead from each address to the first system with this address.
abbrev pub LeadsToFirst : List (Address × ℕ) → List Address → Type 0
LeadsToFirst entries systems = (a : Address) → IsFirst (lookup (λ k. same_address a k) entries) (λ b. same_address b a) systems

abbrev pub own_addresses : List SystemState → List Address
own_addresses ss = map (λ s. s.file.system) ss

abbrev pub with_change : WorldState → ℕ → (SystemState → SystemState) → WorldState
with_change world i f = record { systems = change i f world.systems; packets = world.packets }

-- A system after a posting, with the message unless it is refused.
abbrev pub after_posting : List ℕ → Draft → ℕ → Stamp → SystemState → SystemState
after_posting tag draft serial stamp s = state_with s (posting s.file s.base tag draft serial stamp)

abbrev pub after_purge : SystemState → SystemState
after_purge s = record { file = s.file; base = purged whole s.base s.cursor; cursor = s.cursor }

-- The packets of a scan; none if its stamp is out of range.
abbrev pub made_by : Stamp → SystemState → List Packet
made_by stamp s = if is_stamp stamp then scanned s.file s.base s.cursor stamp else []

abbrev pub after_scan : Stamp → SystemState → SystemState
after_scan stamp s = if is_stamp stamp then record { file = s.file; base = s.base; cursor = length s.base } else s

abbrev pub scanned_world : WorldState → ℕ → Stamp → Option SystemState → WorldState
scanned_world world i stamp None = world
scanned_world world i stamp (Some s) = record {
  systems = change i (after_scan stamp) world.systems;
  packets = world.packets ++ map made (made_by stamp s);
}

-- The packets of a scan of this system fit.
abbrev pub ScanFits : Stamp → Option SystemState → Type 0
ScanFits stamp None = Unit {0}
ScanFits stamp (Some s) = All Fits (made_by stamp s)

abbrev pub after_toss : Packet → SystemState → SystemState
after_toss packet s = record { file = s.file; base = tossed s.file s.base (sender_of s.file packet.header) packet.messages; cursor = s.cursor }

abbrev pub arrived : Exported → Exported
arrived e = record { bytes = e.bytes; to = e.to; came = true }

-- The index of the first system with the address, or the number of systems without one.
abbrev pub first_at : WorldState → Address → ℕ
first_at world to = position_or_len (λ s. same_address s.file.system to) world.systems

-- The world after the packet with an index came.
abbrev pub world_after : WorldState → ℕ → Packet → WorldState
world_after world k packet =
    if nat_lt (first_at world (destination packet)) (length world.systems)
    then record {
      systems = change (first_at world (destination packet)) (after_toss packet) world.systems;
      packets = change k arrived world.packets;
    }
    else world
