-- One system by itself: its steps, and all that may arrive.
use Rattle.std.specs.Prelude.{ℕ, List, [], ◌∷◌, ◌++◌, if◌then◌else◌}
use Rattle.echo_addr.specs.declared.address.Address.{Address}
use Rattle.model_graph.specs.Walk.{Among}
use Rattle.echo_packet.specs.Message.{HasNoZero, Message}
use Rattle.echo_links.specs.Links.{LinkFile}
use Rattle.model_steps.specs.{declared.draft.Draft.Draft, declared.packet.Packet.Packet, declared.stamp.Stamp.Stamp, Purging.purged, Scanning.scanned, Stamps.is_stamp}
use Rattle.{base_file.specs.declared.range.PurgeRange.PurgeRange, echo_filed.specs.Filed.Filed}
use Rattle.model_run.specs.Run.{System, fresh, posting_at, purging_at, scanning_at, tossing_at}

-- The system posts, tosses, scans or is purged. It may toss any messages under any sender. If the toss of a packet
-- stops inside, the event has the first messages of the packet.
pub data LoneEvent : Type 0 where
  PostHere : (tag : List ℕ) (draft : Draft) (serial : ℕ) (stamp : Stamp) → LoneEvent
  TossHere : (sender : Address) (messages : List Message) → LoneEvent
  ScanHere : (stamp : Stamp) → LoneEvent
  PurgeHere : (range : PurgeRange) → LoneEvent

-- A purge: its range, and the number of messages that had been scanned.
pub record PurgeDone : Type 0 where
  pub range : PurgeRange
  pub scanned : ℕ

-- The messages as some purges leave them. The first of the list was the last.
abbrev pub left_by_all : List PurgeDone → List Filed → List Filed
left_by_all [] messages = messages
left_by_all (last ∷ earlier) messages = purged last.range (left_by_all earlier messages) last.scanned

-- The system, the packets of all its scans in order, and its purges, the last one first.
pub record LoneSystem : Type 0 where
  pub system : System
  pub sent : List Packet
  pub purges : List PurgeDone

-- An empty system with this link file.
abbrev pub lone_at_first : LinkFile → LoneSystem
lone_at_first file = record { system = fresh file; sent = []; purges = [] }

-- The system has changed, and nothing was sent.
abbrev pub with_system : LoneSystem → System → LoneSystem
with_system s system = record { system = system; sent = s.sent; purges = s.purges }

-- The packets of a scan join those that were sent, and the cursor moves to the end.
abbrev pub with_scanned : Stamp → LoneSystem → LoneSystem
with_scanned stamp s = record {
  system = scanning_at s.system;
  sent = s.sent ++ scanned s.system.file s.system.base s.system.cursor stamp;
  purges = s.purges;
}

-- The effect of an event. A refused posting has no effect, nor has a scan with a stamp out of range.
abbrev pub after_lone : LoneSystem → LoneEvent → LoneSystem
after_lone s (PostHere tag draft serial stamp) = with_system s (posting_at tag draft serial stamp s.system)
after_lone s (TossHere sender messages) = with_system s (tossing_at sender messages s.system)
after_lone s (ScanHere stamp) = if is_stamp stamp then with_scanned stamp s else s
after_lone s (PurgeHere range) = record {
  system = purging_at range s.system;
  sent = s.sent;
  purges = record { range = range; scanned = s.system.cursor } ∷ s.purges;
}

-- The effect of events in order.
abbrev pub after_all_lone : LoneSystem → List LoneEvent → LoneSystem
after_all_lone s [] = s
after_all_lone s (event ∷ later) = after_all_lone (after_lone s event) later

-- The system with this link file after these events, from an empty start.
abbrev pub lone_run : LinkFile → List LoneEvent → LoneSystem
lone_run file events = after_all_lone (lone_at_first file) events

-- No text of a tossed message has a byte 00, since a 00 ends a text in a packet.
abbrev pub IsOfPackets : LoneEvent → Type 0
IsOfPackets (TossHere sender messages) = (packed : Message) → Among packed messages → HasNoZero packed.text
IsOfPackets other = Unit {0}

-- Packets can have all tossed messages.
abbrev pub AreOfPackets : List LoneEvent → Type 0
AreOfPackets events = (event : LoneEvent) → Among event events → IsOfPackets event
