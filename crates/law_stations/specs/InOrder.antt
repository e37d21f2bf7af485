-- The promise about a net, for any commands.
use Rattle.std.specs.Prelude.{◌≡◌, ℕ, ◌⊎◌, ◌≤◌, List, map, take, Some, Ok}
use Rattle.{cmd_status.specs.Inputs.AreLinkFiles, model_graph.specs.Walk.{Among, Different}}
use Rattle.{echo_packet.specs.{Packet.PacketOf, declared.limits.Limits.Limits}, echo_links.specs.{Links.LinkFile, LinkLines.LinksOf}}
use Rattle.{base_file.specs.Base.IsBase, echo_filed.specs.{declared.key.Key.Key, Filed.{Filed, key_of}, Stubs.stub_of}}
use Rattle.{model_steps.specs.declared.packet.Packet.Packet, model_run.specs.{Orderly.{SameContent, count}, Run.nth}, law_stations.specs.Agreement.file_address}
use Rattle.base_file.specs.declared.range.PurgeRange.{PurgeRange}
use Rattle.law_stations.specs.{Commands.{CommandEvent, Happen, Purge}, Nets.{Net, Station, first_net}}

-- The contents of a station: its link file, and the messages and the cursor of its base.
pub record StationSays (station : Station) (file : LinkFile) (messages : List Filed) (cursor : ℕ) : Type 0 where
  pub links : LinksOf station.links (Ok file)
  pub base : station.base ≡ record { messages = messages; cursor = cursor }

-- The station with this index has these contents.
pub record StationHolds (net : Net) (i : ℕ) (file : LinkFile) (messages : List Filed) (cursor : ℕ) : Type 0 where
  pub station : Station
  pub there : nth i net.stations ≡ Some station
  pub says : StationSays station file messages cursor

-- The bytes are a packet.
abbrev pub ReadsAs : List ℕ → Packet → Type 0
ReadsAs bytes p = (limits : Limits) × PacketOf limits p.header p.messages bytes

-- `purge` was called at the station with the index, with some range.
abbrev pub WasPurged : List CommandEvent → ℕ → Type 0
WasPurged commands i = (range : PurgeRange) × Among (record { station = i; command = Purge range }) commands

-- A message is the stub of one with the content of a posting: it was scanned, and `purge` was called at its station.
pub record IsLeftByPurge (commands : List CommandEvent) (i : ℕ) (scanned : List Filed) (m posting : Filed) : Type 0 where
  pub purged : WasPurged commands i
  pub scanned_before : Among m scanned
  pub filed : Filed
  pub stub : m ≡ stub_of filed
  pub same : SameContent filed posting

-- A message of a base has the DateTime, names, subject and kept lines of a posting, unless a purge took them.
abbrev pub IsUnchanged : List CommandEvent → ℕ → List Filed → ℕ → Filed → Filed → Type 0
IsUnchanged commands i messages cursor m posting = SameContent m posting ⊎ IsLeftByPurge commands i (take cursor messages) m posting

-- The promise about all areas of a net.
pub record IsSound (commands : List CommandEvent) (net : Net) : Type 0 where
  -- Each packet file is a packet, and each station's messages are a base.
  pub packets : (bytes : List ℕ) → Among bytes net.packets → (p : Packet) × ReadsAs bytes p
  pub bases : (station : Station) → Among station net.stations → (file : LinkFile) × (messages : List Filed) × (cursor : ℕ) × StationSays station file messages cursor × IsBase messages cursor
  -- Each station has each message at most once.
  pub filed_once : (i : ℕ) (file : LinkFile) (messages : List Filed) (cursor : ℕ) → StationHolds net i file messages cursor → (key : Key) → count key messages ≤ 1
  -- It has only messages that were posted, unchanged unless they were scanned and purged.
  pub only_posted : (i : ℕ) (file : LinkFile) (messages : List Filed) (cursor : ℕ) → StationHolds net i file messages cursor → (m : Filed) → Among m messages →
      (posting : Filed) × Among posting net.postings × (posting.echo.tag ≡ m.echo.tag) × IsUnchanged commands i messages cursor m posting

-- The messages of a station's base have the posting exactly once, unchanged.
pub record HasUnchanged (commands : List CommandEvent) (i : ℕ) (messages : List Filed) (cursor : ℕ) (posting : Filed) : Type 0 where
  pub once : count (key_of posting) messages ≡ 1
  pub same : (m : Filed) → Among m messages → key_of m ≡ key_of posting → IsUnchanged commands i messages cursor m posting

-- Any commands on stations of different addresses leave a sound net.
abbrev pub NetsAreSound : Type 0
NetsAreSound = (links : List (List ℕ)) (files : List LinkFile) → AreLinkFiles links files → Different (map file_address files)
    → (commands : List CommandEvent) (net : Net) → Happen commands (first_net links) net → IsSound commands net
