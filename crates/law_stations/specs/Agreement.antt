-- A net of stations and a run of systems that agree.
use Rattle.std.specs.Prelude.{◌≡◌, ◌≢◌, ◌⊎◌, ℕ, List, [], ◌∷◌, ◌++◌, map, length, None, Ok}
use Rattle.echo_addr.specs.declared.address.Address.{Address}
use Rattle.{model_graph.specs.Walk.{Among, Different}, echo_packet.specs.{Packet.PacketOf, declared.limits.Limits.Limits}, echo_links.specs.Links.LinkFile}
use Rattle.{echo_links.specs.LinkLines.LinksOf, echo_filed.specs.Filed.Filed, base_file.specs.Base.{Base, IsBase}}
use Rattle.{model_steps.specs.declared.packet.Packet.Packet, model_run.specs.Event.{Delivery, PartDelivery, Posting, Purging, RunEvent, Scanning}}
use Rattle.{model_run.specs.Run.{Run, System, after_events, run_of}, cmd_status.specs.Inputs.AreLinkFiles, cmd_store.specs.Drafts.draft_given}
use Rattle.law_stations.specs.{Commands.{Command, CommandEvent, Happen, Happens, Post, Purge, Scan, Toss}, Nets.{Net, Paired, Station, first_net}}

-- The messages and the cursor of a system.
abbrev pub base_of : System → Base
base_of s = record { messages = s.base; cursor = s.cursor }

-- The link file and the base of a station are those of a system, and they are a base.
pub record HasSystem (station : Station) (s : System) : Type 0 where
  pub links : LinksOf station.links (Ok s.file)
  pub base : station.base ≡ base_of s
  pub is_base : IsBase s.base s.cursor

-- Limits that these bytes meet.
abbrev pub limits_of : List ℕ → Limits
limits_of bytes = record { text = length bytes; messages = length bytes }

-- The bytes are those of the packet, and its header names the zone of its receiver.
pub record IsPacketFile (bytes : List ℕ) (p : Packet) : Type 0 where
  pub packet : PacketOf (limits_of bytes) p.header p.messages bytes
  pub zone : p.header.dest_zone ≢ 0

-- The system filed the message, and it was posted there.
pub record HasPosting (m : Filed) (s : System) : Type 0 where
  pub filed : Among m s.history
  pub own : m.sender ≡ None

-- The stations have the link files and the bases of the systems. The packet files are the bytes of the packets, in
-- order. The same packets were delivered, and exactly the postings were filed by their systems.
pub record Agrees (net : Net) (run : Run) : Type 0 where
  pub stations : Paired HasSystem net.stations run.systems
  pub packets : Paired IsPacketFile net.packets run.packets
  pub delivered : net.delivered ≡ run.delivered
  pub postings : (m : Filed) → Among m net.postings → (s : System) × Among s run.systems × HasPosting m s
  pub only_postings : (s : System) → Among s run.systems → (m : Filed) → HasPosting m s → Among m net.postings

-- The address of a system.
abbrev pub own_address : System → Address
own_address s = s.file.system

abbrev pub file_address : LinkFile → Address
file_address file = file.system

-- The toss of one packet file: no event if it is refused, the delivery of the packet, or one that stops after its
-- first messages.
abbrev pub IsTossOf : ℕ → List RunEvent → Type 0
IsTossOf k events = (events ≡ []) ⊎ ((events ≡ Delivery k ∷ []) ⊎ ((messages : ℕ) × (events ≡ PartDelivery k messages ∷ [])))

-- The tosses of several packet files, in order.
abbrev pub AreTossesOf : List ℕ → List RunEvent → Type 0
AreTossesOf [] events = events ≡ []
AreTossesOf (k ∷ later) events = (first : List RunEvent) × (rest : List RunEvent) × (events ≡ first ++ rest) × IsTossOf k first × AreTossesOf later rest

-- The events of a command without a fault: one posting, one scan, one purge, or the tosses of its packets.
abbrev pub AreEventsOf : Command → ℕ → List RunEvent → Type 0
AreEventsOf (Post words body) i events = events ≡ Posting i words.tag.now (draft_given words body) words.serial words.stamp ∷ []
AreEventsOf (Scan stamp) i events = events ≡ Scanning i stamp ∷ []
AreEventsOf (Purge range) i events = events ≡ Purging i range ∷ []
AreEventsOf (Toss indexes) i events = AreTossesOf indexes events

-- The events of several commands in order: those of the first, or none, and then those of the later ones.
abbrev pub AreEventsOfAll : List CommandEvent → List RunEvent → Type 0
AreEventsOfAll [] events = events ≡ []
AreEventsOfAll (command ∷ later) events =
    (first : List RunEvent) × (rest : List RunEvent) × (events ≡ first ++ rest) × ((first ≡ []) ⊎ AreEventsOf command.command command.station first) × AreEventsOfAll later rest

-- A command event from one net to another is these events of the run that agrees with the net, or none.
abbrev pub EventIsEvents : Type 0
EventIsEvents = (event : CommandEvent) (net new : Net) (run : Run) → Different (map own_address run.systems) → Agrees net run → Happens event net new
    → (events : List RunEvent) × ((events ≡ []) ⊎ AreEventsOf event.command event.station events) × Agrees new (after_events run events)

-- After any command events, from stations with empty bases, the net agrees with a run of the events of these commands.
abbrev pub EventsAreARun : Type 0
EventsAreARun = (links : List (List ℕ)) (files : List LinkFile) → AreLinkFiles links files → Different (map file_address files)
    → (commands : List CommandEvent) (net : Net) → Happen commands (first_net links) net
    → (events : List RunEvent) × AreEventsOfAll commands events × Agrees net (run_of files events)
