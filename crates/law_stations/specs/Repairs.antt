-- Repair on the disks of a net of stations, from any state on, and for any stops of commands.
use Rattle.std.specs.{Prelude.{◌≡◌, ◌≢◌, ◌⊎◌, ℕ, zero, suc, ◌≤◌, IsTrue, List, [], ◌∷◌, ◌++◌, length, map, Some}, List.AllByRecursion}
use Rattle.{echo_addr.specs.declared.address.Address.Address, cmd_status.specs.Inputs.AreLinkFiles, model_graph.specs.Walk.{Among, Different, Walk}}
use Rattle.{echo_packet.specs.{Header.AreBytes, Packet.packet_bytes}, echo_links.specs.Links.{LinkFile, has_area, is_link}}
use Rattle.{echo_filed.specs.{declared.key.Key.{Key, TheVariants.ById}, Filed.{Filed, key_of}}, base_file.specs.Base.is_known}
use Rattle.model_steps.specs.{declared.{packet.Packet.Packet, stamp.Stamp.Stamp}, Resending.is_whole_in, Scanning.copy_to}
use Rattle.model_run.specs.{Orderly.{count, origin}, Repair.{AreJoined, both_list, is_lacking, rest_packet}, Run.{destination, nth}}
use Rattle.law_stations.specs.{Agreement.file_address, AnyDisks.{all_packets, disks_at}, AnyNets.{IsSomeNet, links_at, net_at}}
use Rattle.base_file.specs.declared.range.PurgeRange.{PurgeRange}
use Rattle.law_stations.specs.{Commands.{CommandEvent, IsAt, Purge}, Disks.{Disks, StagingFile, with_packet}, InOrder.{ReadsAs, StationHolds}}
use Rattle.law_stations.specs.{Nets.{Net, Station}, Stopping.MayHappen}

-- The bytes of a packet.
abbrev pub bytes_sent : Packet → List ℕ
bytes_sent p = packet_bytes p.header p.messages

-- A station leaves a packet of all of an area that a link lacks by its list. Its base stays.
pub record Resends (i : ℕ) (area : List ℕ) (to : Address) (held : List (List ℕ)) (stamp : Stamp) (net new : Net) : Type 0 where
  pub station : Station
  pub file : LinkFile
  pub at : IsAt net i station file
  pub link : IsTrue (is_link file area to)
  pub bytes : AreBytes (bytes_sent (rest_packet file stamp area to held station.base.messages))
  pub becomes : new ≡ with_packet net (bytes_sent (rest_packet file stamp area to held station.base.messages))

-- In a repair a station does this, or a command is called.
pub data RepairCommand : Type 0 where
  Resend : (station : ℕ) (area : List ℕ) (to : Address) (held : List (List ℕ)) (stamp : Stamp) → RepairCommand
  Calls : (event : CommandEvent) → RepairCommand

-- The possible effects with any stop. A packet of a repair gets its name when it is whole, or never.
abbrev pub RepairMayHappen : RepairCommand → Disks → Disks → Type 0
RepairMayHappen (Resend i area to held stamp) d new = (new ≡ d) ⊎ (Resends i area to held stamp d.net new.net × (new.staging ≡ d.staging))
RepairMayHappen (Calls event) d new = MayHappen event d new

abbrev pub RepairsMayHappen : List RepairCommand → Disks → Disks → Type 0
RepairsMayHappen [] d new = new ≡ d
RepairsMayHappen (command ∷ later) d new = (next : Disks) × RepairMayHappen command d next × RepairsMayHappen later next new

-- No base is purged.
abbrev pub CallsNoPurge : RepairCommand → Type 0
CallsNoPurge (Calls event) = (range : PurgeRange) → event.command ≢ Purge range
CallsNoPurge other = Unit {0}

-- The stations with this link file know all ids of the list.
abbrev pub AreHeldBy : List ℕ → Net → LinkFile → List (List ℕ) → Type 0
AreHeldBy area net to held = (id : List ℕ) → Among id held → (i : ℕ) (file : LinkFile) (others : List Filed) (cursor : ℕ) → StationHolds net i file others cursor →
    file.system ≡ to.system → IsTrue (is_known others (ById area id))

-- These messages of a station have reached a link: a packet file was tossed whole since the repair began. It has all that
-- a list of the link does not name, and the link has all that the list names in the end. Who made the packet and when
-- does not matter: it may have waited for its name when the repair began.
pub record HasReachedLink (area : List ℕ) (after : Net) (from to : LinkFile) (messages : List Filed) : Type 0 where
  pub index : ℕ
  pub bytes : List ℕ
  pub packet : Packet
  pub there : nth index after.packets ≡ Some bytes
  pub reads : ReadsAs bytes packet
  pub tossed : Among index after.delivered
  pub sent_by : (origin packet ≡ from.system) × (packet.header.orig_zone ≢ 0)
  pub sent_to : destination packet ≡ to.system
  pub held : List (List ℕ)
  pub has_rest : (m : Filed) → Among m messages → IsTrue (is_lacking area held m) → Among (copy_to from to.system m) packet.messages
  pub is_held : AreHeldBy area after to held

-- A round: nothing is purged, anything may stop a command, and what each station had of the area at its beginning has
-- reached each of its links.
pub record IsStationRound (area : List ℕ) (before after : Disks) : Type 0 where
  pub commands : List RepairCommand
  pub no_purge : AllByRecursion CallsNoPurge commands
  pub may_happen : RepairsMayHappen commands before after
  pub reached : (i : ℕ) (from : LinkFile) (messages : List Filed) (cursor : ℕ) → StationHolds before.net i from messages cursor →
      (j : ℕ) (to : LinkFile) (others : List Filed) (end : ℕ) → StationHolds before.net j to others end →
      IsTrue (is_link from area to.system) → IsTrue (is_link to area from.system) → HasReachedLink area after.net from to messages

abbrev pub AreStationRounds : List ℕ → ℕ → Disks → Disks → Type 0
AreStationRounds area zero before after = after ≡ before
AreStationRounds area (suc n) before after = (next : Disks) × IsStationRound area before next × AreStationRounds area n next after

-- These messages have the one with the key, with its text.
abbrev pub HaveWhole : List ℕ → Key → List Filed → Type 0
HaveWhole area key messages = (m : Filed) × Among m messages × (key_of m ≡ key) × IsTrue (is_whole_in area m)

-- No station with such a link file has only its stub.
abbrev pub HaveNoStubs : (LinkFile → Type 0) → List ℕ → Key → Net → Type 0
HaveNoStubs Are area key net = (i : ℕ) (file : LinkFile) (messages : List Filed) (cursor : ℕ) → StationHolds net i file messages cursor → Are file →
    (m : Filed) → Among m messages → key_of m ≡ key → IsTrue (is_whole_in area m)

-- The second of two stations that are joined so has it with its text, exactly once, if the first had it before.
abbrev pub ComesTo : (LinkFile → LinkFile → Type 0) → List ℕ → Key → Net → Net → Type 0
ComesTo AreSo area key before after =
    (i : ℕ) (from : LinkFile) (messages : List Filed) (cursor : ℕ) → StationHolds before i from messages cursor → HaveWhole area key messages →
    (j : ℕ) (to : LinkFile) (others : List Filed) (end : ℕ) → StationHolds after j to others end → AreSo from to → HaveWhole area key others × (count key others ≡ 1)

-- Both stations have the area.
abbrev pub Share : List ℕ → LinkFile → LinkFile → Type 0
Share area from to = IsTrue (has_area from area) × IsTrue (has_area to area)

-- A walk of at most n links that are in both files leads from one station to the other, and no station on it has only the stub.
pub record AreNear (files : List LinkFile) (n : ℕ) (area : List ℕ) (key : Key) (after : Net) (from to : LinkFile) : Type 0 where
  pub walk : List Address
  pub few : length walk ≤ n
  pub no_stubs : HaveNoStubs (λ file. Among file.system walk) area key after
  pub leads : Walk (both_list files area) from.system walk to.system

-- Disks with any bases, packet files and staging files. The stations have these link files.
pub record AreAnyDisks (stations : List Station) (packets : List (List ℕ)) (staging : List StagingFile) (files : List LinkFile) : Type 0 where
  pub are_files : AreLinkFiles (links_at stations) files
  pub differ : Different (map file_address files)
  pub some : IsSomeNet stations (all_packets stations packets staging)

-- From any disks on, n rounds bring each message n links further.
abbrev pub RoundsBringAllThere : Type 0
RoundsBringAllThere = (stations : List Station) (packets : List (List ℕ)) (staging : List StagingFile) (files : List LinkFile) → AreAnyDisks stations packets staging files
    → (area : List ℕ) (n : ℕ) (after : Disks) → AreStationRounds area n (disks_at stations packets staging) after
    → (key : Key) → ComesTo (AreNear files n area key after.net) area key (net_at stations packets) after.net

-- As many rounds as there are stations bring each message everywhere, if links that are in both files join the stations of
-- the area.
abbrev pub RoundsBringAll : Type 0
RoundsBringAll = (stations : List Station) (packets : List (List ℕ)) (staging : List StagingFile) (files : List LinkFile) → AreAnyDisks stations packets staging files
    → (area : List ℕ) → AreJoined files area → (n : ℕ) → length stations ≤ n → (after : Disks) → AreStationRounds area n (disks_at stations packets staging) after
    → (key : Key) → HaveNoStubs (λ file. IsTrue (has_area file area)) area key after.net → ComesTo (Share area) area key (net_at stations packets) after.net

-- Commands went on so that a station left a packet of all of an area that a link lacks by a list.
pub record HaveResent (i : ℕ) (area : List ℕ) (to : Address) (held : List (List ℕ)) (before after : Disks) : Type 0 where
  pub earlier : List RepairCommand
  pub no_purge : AllByRecursion CallsNoPurge earlier
  pub then : Disks
  pub may_happen : RepairsMayHappen earlier before then
  pub stamp : Stamp
  pub named : Disks
  pub resends : Resends i area to held stamp then.net named.net
  pub later : List RepairCommand
  pub goes_on : RepairsMayHappen later named after

-- Such a packet has reached its link once it was tossed whole, if the link has what the list names.
abbrev pub PacketsReach : Type 0
PacketsReach = (stations : List Station) (packets : List (List ℕ)) (staging : List StagingFile) (files : List LinkFile) → AreAnyDisks stations packets staging files
    → (area : List ℕ) (n : ℕ) (before : Disks) → AreStationRounds area n (disks_at stations packets staging) before
    → (i : ℕ) (from : LinkFile) (messages : List Filed) (cursor : ℕ) → StationHolds before.net i from messages cursor
    → (to : LinkFile) (held : List (List ℕ)) (after : Disks) → (resent : HaveResent i area to.system held before after)
    → Among (length resent.then.net.packets) after.net.delivered → AreHeldBy area after.net to held → HasReachedLink area after.net from to messages

-- No station had a message with the key of one of these.
abbrev pub AreNewTo : Net → List Filed → Type 0
AreNewTo net posted = (m : Filed) → Among m posted → (i : ℕ) (file : LinkFile) (messages : List Filed) (cursor : ℕ) → StationHolds net i file messages cursor → count (key_of m) messages ≡ 0

-- The messages of each station are those that it had, and behind them only new ones, as those that were posted there meanwhile.
abbrev pub FilesNothing : Net → Net → Type 0
FilesNothing before after = (i : ℕ) (file old : LinkFile) (messages kept : List Filed) (cursor end : ℕ) →
    StationHolds before i file messages cursor → StationHolds after i old kept end → (posted : List Filed) × (kept ≡ messages ++ posted) × AreNewTo before posted

-- If a round files nothing after some others, each message was everywhere before it.
abbrev pub RoundsEnd : Type 0
RoundsEnd = (stations : List Station) (packets : List (List ℕ)) (staging : List StagingFile) (files : List LinkFile) → AreAnyDisks stations packets staging files
    → (area : List ℕ) → AreJoined files area → (n : ℕ) (mended after : Disks) → AreStationRounds area n (disks_at stations packets staging) mended
    → IsStationRound area mended after → FilesNothing mended.net after.net
    → (key : Key) → HaveNoStubs (λ file. IsTrue (has_area file area)) area key mended.net → ComesTo (Share area) area key mended.net mended.net
