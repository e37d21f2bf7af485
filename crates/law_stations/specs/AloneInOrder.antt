-- The promise about one station, for any bytes that it received.
use Rattle.std.specs.Prelude.{◌≡◌, ℕ, ◌⊎◌, ◌<◌, ◌≤◌, false, true, List, [], ◌∷◌, ◌++◌, drop, take, None, Ok, Some}
use Rattle.echo_addr.specs.declared.address.Address.{Address}
use Rattle.{model_graph.specs.Walk.Among, echo_packet.specs.{declared.{header.Header.Header, limits.Limits.Limits}, Message.Message, Packet.PacketOf}}
use Rattle.{echo_text.specs.Refusal.text_refusal, echo_links.specs.{Links.LinkFile, LinkLines.LinksOf}, base_file.specs.{Base.IsBase, Purging.{is_within, purge_end}, declared.range.PurgeRange.PurgeRange}}
use Rattle.{echo_filed.specs.{declared.key.Key.Key, Filed.{Filed, key_of}, Stubs.{is_stub, stub_of}}, model_steps.specs.declared.packet.Packet.Packet}
use Rattle.{model_steps.specs.Tossing.{received, sender_of}, echo_steps.specs.PacketSteps.BeginsWith, model_run.specs.Exports.IsSentCopy}
use Rattle.{model_run.specs.{Orderly.{copies, count, sent_count}, Run.{destination, nth}, Owed.{IsFromLink, IsOwed}}, cmd_store.specs.Coming.Coming}
use Rattle.law_stations.specs.LoneStations.{HappenAlone, LoneCommand, LoneStation, PurgeAlone, TossesAny, held_in, lone_station_at_first}
use Rattle.law_stations.specs.{InOrder.{ReadsAs, StationSays}, Nets.{Paired, Station}}

-- The bytes begin with a packet.
pub record HoldsPacket (bytes : List ℕ) (p : Packet) : Type 0 where
  pub limits : Limits
  pub front : List ℕ
  pub behind : List ℕ
  pub parts : bytes ≡ front ++ behind
  pub packet : PacketOf limits p.header p.messages front

-- The message is in the bytes after the header of a packet, and came from a link of its area.
pub record CameIn (bytes : List ℕ) (file : LinkFile) (m : Filed) : Type 0 where
  pub limits : Limits
  pub header : Header
  pub messages : List Message
  pub begins : BeginsWith limits header messages bytes
  pub packed : Message
  pub one : Among packed messages
  pub from : IsFromLink file (sender_of file header) packed
  pub is : m ≡ received (sender_of file header) packed

-- The message was posted, or came in an input file of `toss`.
abbrev pub HasCome : LoneStation → LinkFile → Filed → Type 0
HasCome s file m = Among m s.net.postings ⊎ ((bytes : List ℕ) × Among bytes s.came × CameIn bytes file m)

-- The contents of the station: its link file, and the messages and the cursor of its base.
pub record LoneSays (s : LoneStation) (file : LinkFile) (messages : List Filed) (cursor : ℕ) : Type 0 where
  pub station : Station
  pub there : s.net.stations ≡ station ∷ []
  pub says : StationSays station file messages cursor

-- A scanned message is the stub of another, and `purge` was called for its area or for all.
pub record IsLeftAlone (commands : List LoneCommand) (scanned : List Filed) (m o : Filed) : Type 0 where
  pub range : PurgeRange
  pub purged : Among (PurgeAlone range) commands
  pub within : is_within range.area o ≡ true
  pub scanned_before : Among m scanned
  pub stub : m ≡ stub_of o

-- The promise about the base and the packet files of the station after these commands.
pub record IsInOrderAlone (commands : List LoneCommand) (s : LoneStation) : Type 0 where
  -- Each packet file is a packet, and the station's messages are a base.
  pub packets : (bytes : List ℕ) → Among bytes s.net.packets → (p : Packet) × ReadsAs bytes p
  pub base : (file : LinkFile) × (messages : List Filed) × (cursor : ℕ) × LoneSays s file messages cursor × IsBase messages cursor
  -- It has each message at most once.
  pub filed_once : (file : LinkFile) (messages : List Filed) (cursor : ℕ) → LoneSays s file messages cursor → (key : Key) → count key messages ≤ 1
  -- It has only messages that were posted or came from a link of their area, unchanged or as stubs.
  pub only_come : (file : LinkFile) (messages : List Filed) (cursor : ℕ) → LoneSays s file messages cursor → (m : Filed) → Among m messages →
      (o : Filed) × HasCome s file o × ((m ≡ o) ⊎ IsLeftAlone commands (take cursor messages) m o)
  -- And it has all of those: postings, and messages from a link of their area in a packet that was tossed whole.
  pub all_posted : (file : LinkFile) (messages : List Filed) (cursor : ℕ) → LoneSays s file messages cursor →
      (posting : Filed) → Among posting s.net.postings → count (key_of posting) messages ≡ 1
  pub all_come : (file : LinkFile) (messages : List Filed) (cursor : ℕ) → LoneSays s file messages cursor →
      (bytes : List ℕ) → Among bytes s.whole → (p : Packet) → HoldsPacket bytes p → (packed : Message) → Among packed p.messages →
      IsFromLink file (sender_of file p.header) packed → count (key_of (received (sender_of file p.header) packed)) messages ≡ 1
  -- Over all packet files each address is sent each message at most once.
  pub sent_once : (packets : List Packet) → Paired ReadsAs s.net.packets packets → (address : Address) (key : Key) → sent_count address key packets ≤ 1
  -- No packet has a message for an address that should not get it, or a waiting message.
  pub never : (packets : List Packet) → Paired ReadsAs s.net.packets packets →
      (file : LinkFile) (messages : List Filed) (cursor : ℕ) → LoneSays s file messages cursor → (m : Filed) → Among m messages →
      (address : Address) → (¬ IsOwed file m address) → sent_count address (key_of m) packets ≡ 0
  pub waiting : (packets : List Packet) → Paired ReadsAs s.net.packets packets →
      (file : LinkFile) (messages : List Filed) (cursor : ℕ) → LoneSays s file messages cursor → (m : Filed) → Among m (drop cursor messages) →
      (address : Address) → sent_count address (key_of m) packets ≡ 0
  -- A scanned message that no purge reached is in a packet to each address that should get it, once.
  pub owed : (packets : List Packet) → Paired ReadsAs s.net.packets packets →
      (file : LinkFile) (messages : List Filed) (cursor : ℕ) → LoneSays s file messages cursor → (m : Filed) → Among m (take cursor messages) →
      is_stub m ≡ false → (address : Address) → IsOwed file m address → sent_count address (key_of m) packets ≡ 1
  -- Each message in a packet file is echomail. It is a copy of one that was posted or came, for an address that should
  -- get it.
  pub echomail : (packets : List Packet) → Paired ReadsAs s.net.packets packets → (p : Packet) → Among p packets →
      (packed : Message) → Among packed p.messages → text_refusal packed.text ≡ None
  pub copied_from : (packets : List Packet) → Paired ReadsAs s.net.packets packets →
      (file : LinkFile) (messages : List Filed) (cursor : ℕ) → LoneSays s file messages cursor → (p : Packet) → Among p packets →
      (copy : Filed) → Among copy (copies p) → (o : Filed) × HasCome s file o × IsSentCopy file o (destination p) copy × IsOwed file o (destination p)

-- Any commands on one station, and any input files of `toss`, leave it in order.
abbrev pub AloneIsInOrder : Type 0
AloneIsInOrder = (links : List ℕ) (file : LinkFile) → LinksOf links (Ok file)
    → (commands : List LoneCommand) (s : LoneStation) → HappenAlone commands (lone_station_at_first links) s → IsInOrderAlone commands s

-- `purge` was called with a range that this message at this place is in. So many messages are scanned now.
pub record IsReached (commands : List LoneCommand) (cursor i : ℕ) (m : Filed) : Type 0 where
  pub range : PurgeRange
  pub purged : Among (PurgeAlone range) commands
  pub within : is_within range.area m ≡ true
  pub before : i < purge_end range cursor

-- The later contents of the station keep the present ones. The link file stays, and the cursor does not fall. Each
-- message stays at its place, unchanged or, if it was scanned and a purge since then reached it, as its stub. The packet
-- files stay, before later ones.
pub record ShowsStill (later : List LoneCommand) (s new : LoneStation) : Type 0 where
  pub cursors : (file file' : LinkFile) (messages messages' : List Filed) (cursor cursor' : ℕ) →
      LoneSays s file messages cursor → LoneSays new file' messages' cursor' → (file' ≡ file) × (cursor ≤ cursor')
  pub messages : (file file' : LinkFile) (messages messages' : List Filed) (cursor cursor' : ℕ) →
      LoneSays s file messages cursor → LoneSays new file' messages' cursor' → (i : ℕ) (m : Filed) → nth i messages ≡ Some m →
      (nth i messages' ≡ Some m) ⊎ (IsReached later cursor' i m × (nth i messages' ≡ Some (stub_of m)))
  pub packets : (since : List (List ℕ)) × (new.net.packets ≡ s.net.packets ++ since)

-- The station still shows its contents after any later commands.
abbrev pub AloneStays : Type 0
AloneStays = (links : List ℕ) (file : LinkFile) → LinksOf links (Ok file)
    → (earlier later : List LoneCommand) (s new : LoneStation) → HappenAlone earlier (lone_station_at_first links) s → HappenAlone later s new
    → ShowsStill later s new

-- A toss without a fault has tossed the packets of all its files whole.
abbrev pub FaultlessTossIsWhole : Type 0
FaultlessTossIsWhole = (files : List Coming) (s new : LoneStation) → (toss : TossesAny files s new) → toss.tosses.stopped ≡ None → new.whole ≡ s.whole ++ held_in files
