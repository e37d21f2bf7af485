-- The effect of a command on a net of stations: it changes the base of one station, and commits it there.
use Rattle.std.specs.{Prelude.{◌≡◌, ℕ, ◌⊎◌, ◌+◌, ◌-◌, Bool, true, List, [], ◌∷◌, length, map, take, Option, Some, None, Ok}, List.AllByRecursion}
use Rattle.{base_file.specs.Base.Base, echo_packet.specs.{Header.AreBytes, declared.limits.Limits.Limits}, echo_links.specs.{Links.LinkFile, LinkLines.LinksOf}}
use Rattle.{model_steps.specs.{PacketFiles.PacketFile, declared.stamp.Stamp.Stamp, Posting.posted, Scanning.scanned, Stamps.is_stamp}, model_run.specs.Run.nth}
use Rattle.{base_file.specs.declared.range.PurgeRange.PurgeRange, cmd_status.specs.{declared.fault.Fault.Fault, Devices.Device}, base_store.specs.Store.{all_scanned, purged}, echo_steps.specs.PacketsIn.state_in}
use Rattle.cmd_store.specs.{declared.drafting.NewMessage.NewMessage, Coming.{Coming, Fails, Holds, Unknown}, Drafts.draft_given, PacketLines.file_sent}
use Rattle.cmd_store.specs.{TossRuns.{TossesEachBy, run_begun}, TossedPacket.{TossRun, TossesPacketBy}}
use Rattle.law_stations.specs.Nets.{Net, Paired, Station, with_left, with_posting, with_tossed}
use Rattle.cmd_store.specs.Posted as store

-- The station with the index, and its parsed link file.
pub record IsAt (net : Net) (i : ℕ) (station : Station) (file : LinkFile) : Type 0 where
  pub there : nth i net.stations ≡ Some station
  pub links : LinksOf station.links (Ok file)

-- `post` commits the base with the message.
pub record Posts (words : NewMessage) (body : List ℕ) (net : Net) (i : ℕ) (new : Net) : Type 0 where
  pub station : Station
  pub file : LinkFile
  pub at : IsAt net i station file
  pub next : Base
  pub makes : store.Posts file words body station.base next
  pub becomes : new ≡ with_posting net i next (posted file words.tag.now (draft_given words body) words.serial words.stamp)

-- The packets of a scan of this base, as bytes.
pub record AreScanned (stamp : Stamp) (file : LinkFile) (base : Base) (packets : List PacketFile) : Type 0 where
  pub moment : is_stamp stamp ≡ true
  pub sent : packets ≡ map (file_sent base.cursor) (scanned file base.messages base.cursor stamp)
  pub bytes : AllByRecursion (λ packet. AreBytes packet.bytes) packets

-- `scan` leaves packet files, and commits the base with its cursor at the end.
pub record Scans (stamp : Stamp) (net : Net) (i : ℕ) (new : Net) : Type 0 where
  pub station : Station
  pub file : LinkFile
  pub at : IsAt net i station file
  pub packets : List PacketFile
  pub made : AreScanned stamp file station.base packets
  pub becomes : new ≡ with_left net i packets (all_scanned station.base)

-- `purge` commits the base with the stubs of the messages in this range.
pub record Purges (range : PurgeRange) (net : Net) (i : ℕ) (new : Net) : Type 0 where
  pub station : Station
  pub there : nth i net.stations ≡ Some station
  pub becomes : new ≡ with_left net i [] (purged range station.base)

-- A reader of which only its state is known.
abbrev pub itself : Device → Device
itself reader = reader

-- An input of `toss` is the packet file with the index, or cannot be used.
abbrev pub IsPacketAt : List (List ℕ) → ℕ → Coming → Type 0
IsPacketAt packets k (Holds bytes) = nth k packets ≡ Some bytes
IsPacketAt packets k (Fails path) = Unit {0}
IsPacketAt packets k Unknown = ⊥

-- The indexes of the packets that were tossed whole: all if nothing stopped the run, otherwise those before the one
-- that stopped. The list after that one is left.
abbrev pub whole_of : List ℕ → Option Fault → List Coming → List ℕ
whole_of indexes None left = indexes
whole_of indexes (Some fault) left = take (length indexes - (length left + 1)) indexes

-- Files are tossed at a system with this base, in order, with notes or without, up to the first fault. Then it has
-- the other base. A file is given as its known contents.
pub record TossesAll (files : List Coming) (file : LinkFile) (base next : Base) : Type 0 where
  pub noting : Bool
  pub limits : Limits
  pub run : TossRun
  pub stopped : Option Fault
  pub left : List Coming
  pub each : TossesEachBy (Unit {0}) (TossesPacketBy noting) itself files (run_begun limits (state_in file base)) stopped left run
  pub state : run.system ≡ state_in file next

-- `toss` commits the filed messages, even if a fault ended its run.
pub record Tosses (indexes : List ℕ) (net : Net) (i : ℕ) (new : Net) : Type 0 where
  pub station : Station
  pub file : LinkFile
  pub at : IsAt net i station file
  pub files : List Coming
  pub are : Paired (IsPacketAt net.packets) indexes files
  pub next : Base
  pub tosses : TossesAll files file station.base next
  pub becomes : new ≡ with_tossed net i next (whole_of indexes tosses.stopped tosses.left)

-- A command and its command line; a packet is named by its index in the list of all packet files.
pub data Command : Type 0 where
  Post : (words : NewMessage) (body : List ℕ) → Command
  Scan : (stamp : Stamp) → Command
  Purge : (range : PurgeRange) → Command
  Toss : (indexes : List ℕ) → Command

-- A command is called at the station with an index.
pub record CommandEvent : Type 0 where
  pub station : ℕ
  pub command : Command

-- The command ends without a fault.
abbrev pub Leads : Command → Net → ℕ → Net → Type 0
Leads (Post words body) net i new = Posts words body net i new
Leads (Scan stamp) net i new = Scans stamp net i new
Leads (Purge range) net i new = Purges range net i new
Leads (Toss indexes) net i new = Tosses indexes net i new

-- The effect of a command event. If the command is refused, or a device fails before the commit, nothing changes.
abbrev pub Happens : CommandEvent → Net → Net → Type 0
Happens event net new = (new ≡ net) ⊎ Leads event.command net event.station new

-- The effect of command events in order.
abbrev pub Happen : List CommandEvent → Net → Net → Type 0
Happen [] net new = new ≡ net
Happen (event ∷ later) net new = (next : Net) × Happens event net next × Happen later next new
