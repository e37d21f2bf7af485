-- Systems, and the effects of events on them.
use Rattle.std.specs.{Prelude.{◌≡◌, ◌≤◌, ◌==◌, ℕ, zero, suc, List, [], ◌∷◌, ◌++◌, map, length, take, Option, Some, None, if◌then◌else◌}, List.{list_any, position_or_len}}
use Rattle.echo_addr.specs.declared.address.Address.{Address}
use Rattle.echo_packet.specs.Message.{Message}
use Rattle.model_steps.specs.{declared.packet.Packet.Packet, declared.stamp.Stamp.Stamp, declared.draft.Draft.Draft, SystemState.SystemState, Posting.posting, Tossing.tossing, Tossing.sender_of, Scanning.scanned, Stamps.is_stamp, Purging.purged}
use Rattle.echo_links.specs.Links.{LinkFile, same_address}
use Rattle.{base_file.specs.declared.range.PurgeRange.PurgeRange, echo_filed.specs.Filed.Filed}
use Rattle.model_run.specs.Event.{RunEvent, Posting, Scanning, Delivery, PartDelivery, Purging}

-- A system: its link file, its base and cursor, and its history: the messages of its base as they were filed.
pub record System : Type 0 where
  pub file : LinkFile
  pub base : List Filed
  pub cursor : ℕ
  pub history : List Filed

-- A system without its history.
abbrev pub state_of : System → SystemState
state_of s = record { file = s.file; base = s.base; cursor = s.cursor }

-- The systems, all packets ever exported, and the indexes of the delivered packets, each once.
pub record Run : Type 0 where
  pub systems : List System
  pub packets : List Packet
  pub delivered : List ℕ

-- A system at a later time. Its file stays, its cursor has not fallen, and its earlier messages come first,
-- unchanged.
pub record IsLater (s z : System) : Type 0 where
  pub file : z.file ≡ s.file
  pub cursor : s.cursor ≤ z.cursor
  pub filed : (since : List Filed) × (z.history ≡ s.history ++ since)

-- An empty system.
abbrev pub fresh : LinkFile → System
fresh file = record { file = file; base = []; cursor = 0; history = [] }

-- The message, if there is one, is appended to the base.
abbrev pub filing : System → Option Filed → System
filing s None = s
filing s (Some m) = record { file = s.file; base = s.base ++ m ∷ []; cursor = s.cursor; history = s.history ++ m ∷ [] }

-- A system posts: the message is filed, unless it is refused.
abbrev pub posting_at : List ℕ → Draft → ℕ → Stamp → System → System
posting_at tag draft serial stamp s = filing s (posting s.file s.base tag draft serial stamp)

-- A system tosses messages of one sender, in order.
abbrev pub tossing_at : Address → List Message → System → System
tossing_at sender [] s = s
tossing_at sender (packed ∷ later) s = tossing_at sender later (filing s (tossing s.file s.base sender packed))

-- After a scan the cursor of the system is at the end.
abbrev pub scanning_at : System → System
scanning_at s = record { file = s.file; base = s.base; cursor = length s.base; history = s.history }

-- A purge of a system: messages in its range, before the cursor, become stubs.
abbrev pub purging_at : PurgeRange → System → System
purging_at range s = record { file = s.file; base = purged range s.base s.cursor; cursor = s.cursor; history = s.history }

-- The item with this index.
abbrev pub nth : {X : Type 0} → ℕ → List X → Option X
nth i [] = None
nth zero (x ∷ xs) = Some x
nth (suc i) (x ∷ xs) = nth i xs

-- The list with the item of this index changed.
abbrev pub change : {X : Type 0} → ℕ → (X → X) → List X → List X
change i f [] = []
change zero f (x ∷ xs) = f x ∷ xs
change (suc i) f (x ∷ xs) = x ∷ change i f xs

-- The address that a packet is for.
abbrev pub destination : Packet → Address
destination packet = record { zone = packet.header.dest_zone; net = packet.header.dest_net; node = packet.header.dest_node }

-- The index of the first system of this address, or the number of systems without one.
abbrev pub receiver : Run → Packet → ℕ
receiver run packet = position_or_len (λ s. same_address s.file.system (destination packet)) run.systems

-- One system changes.
abbrev pub changing : Run → ℕ → (System → System) → Run
changing run i f = record { systems = change i f run.systems; packets = run.packets; delivered = run.delivered }

-- A scan of a system, if it exists and the stamp is in range.
abbrev pub scanning : Run → ℕ → Stamp → Option System → Run
scanning run i stamp None = run
scanning run i stamp (Some s) =
    if is_stamp stamp
    then record {
      systems = change i scanning_at run.systems;
      packets = run.packets ++ scanned s.file s.base s.cursor stamp;
      delivered = run.delivered;
    }
    else run

-- A system tosses the first messages of a packet.
abbrev pub taking : Packet → ℕ → System → System
taking packet messages s = tossing_at (sender_of s.file packet.header) (take messages packet.messages) s

-- The index is added if it is new.
abbrev pub with_index : ℕ → List ℕ → List ℕ
with_index k delivered = if list_any (λ d. d == k) delivered then delivered else k ∷ delivered

-- The packet of this index arrives, if the system exists.
abbrev pub coming : Run → ℕ → Packet → Option System → Run
coming run k packet None = run
coming run k packet (Some s) = record {
  systems = change (receiver run packet) (taking packet (length packet.messages)) run.systems;
  packets = run.packets;
  delivered = with_index k run.delivered;
}

-- The packet comes, if it exists.
abbrev pub delivery : Run → ℕ → Option Packet → Run
delivery run k None = run
delivery run k (Some packet) = coming run k packet (nth (receiver run packet) run.systems)

-- The toss of a packet stops after its first messages.
abbrev pub part_delivery : Run → ℕ → Option Packet → Run
part_delivery run messages None = run
part_delivery run messages (Some packet) = changing run (receiver run packet) (taking packet messages)

-- The effect of an event. An event with an unknown index has no effect, nor has a refused one.
abbrev pub after_event : Run → RunEvent → Run
after_event run (Posting i tag draft serial stamp) = changing run i (posting_at tag draft serial stamp)
after_event run (Scanning i stamp) = scanning run i stamp (nth i run.systems)
after_event run (Delivery k) = delivery run k (nth k run.packets)
after_event run (PartDelivery k messages) = part_delivery run messages (nth k run.packets)
after_event run (Purging i range) = changing run i (purging_at range)

-- The effect of events in order.
abbrev pub after_events : Run → List RunEvent → Run
after_events run [] = run
after_events run (event ∷ later) = after_events (after_event run event) later

-- Empty systems with these files.
abbrev pub start : List LinkFile → Run
start files = record { systems = map fresh files; packets = []; delivered = [] }

-- The run of these events, on empty systems with these files.
abbrev pub run_of : List LinkFile → List RunEvent → Run
run_of files events = after_events (start files) events
