-- The promise about one station that begins with any base, and whose link file changes.
use Rattle.std.specs.Prelude.{◌≡◌, ◌≤◌, ℕ, List, [], ◌∷◌, drop, map, take, Ok}
use Rattle.echo_addr.specs.declared.address.Address.{Address}
use Rattle.{base_file.specs.Base.{Base, IsBase}, echo_filed.specs.{declared.key.Key.Key, Filed.{Filed, key_of}}, echo_links.specs.{Links.LinkFile, LinkLines.LinksOf}}
use Rattle.{model_graph.specs.Walk.Among, model_run.specs.Orderly.{count, sent_count}, model_steps.specs.declared.packet.Packet.Packet}
use Rattle.law_stations.specs.{AloneInOrder.LoneSays, AnyNets.net_at, InOrder.ReadsAs, LoneDisks.{LoneDisks, MayHappenAllAlone, on_net}, LoneStations.{LoneCommand, LoneStation}}
use Rattle.law_stations.specs.{Nets.{Net, Paired, Station}, OverCrashes.HasNet}

-- A time without a change of the link file: its bytes, and the commands in it.
pub record LoneEpoch : Type 0 where
  pub links : List ℕ
  pub commands : List LoneCommand

-- The station with another link file.
abbrev pub with_links : List ℕ → Station → Station
with_links links station = record { links = links; base = station.base }

abbrev pub with_links_in : List ℕ → Net → Net
with_links_in links net = record { stations = map (with_links links) net.stations; packets = net.packets; delivered = net.delivered; postings = net.postings }

abbrev pub with_links_on : List ℕ → LoneDisks → LoneDisks
with_links_on links s = record { disks = record { net = with_links_in links s.disks.net; staging = s.disks.staging }; came = s.came; whole = s.whole }

-- The possible effects of times one after another, with any stop of a command.
abbrev pub MayHappenInEpochs : List LoneEpoch → LoneDisks → LoneDisks → Type 0
MayHappenInEpochs [] s new = new ≡ s
MayHappenInEpochs (epoch ∷ later) s new = (next : LoneDisks) × MayHappenAllAlone epoch.commands (with_links_on epoch.links s) next × MayHappenInEpochs later next new

-- Each link file has no fault.
abbrev pub AreWithFiles : List LoneEpoch → Type 0
AreWithFiles epochs = (epoch : LoneEpoch) → Among epoch epochs → (file : LinkFile) × LinksOf epoch.links (Ok file)

-- The disks of a station with any link file and any base, on which no packet waits for its name. Only later packets are told.
abbrev pub lone_disks_from : List ℕ → Base → LoneDisks
lone_disks_from links base = record { disks = record { net = net_at (record { links = links; base = base } ∷ []) []; staging = [] }; came = []; whole = [] }

-- The promise about the base of the station, and about the packets of its scans since it had the first base.
pub record GoesOnInOrder (first : Base) (s : LoneStation) : Type 0 where
  -- Its messages are a base: each at most once. Each posting is there.
  pub base : (file : LinkFile) (messages : List Filed) (cursor : ℕ) → LoneSays s file messages cursor → IsBase messages cursor
  pub filed_once : (file : LinkFile) (messages : List Filed) (cursor : ℕ) → LoneSays s file messages cursor → (key : Key) → count key messages ≤ 1
  pub all_posted : (file : LinkFile) (messages : List Filed) (cursor : ℕ) → LoneSays s file messages cursor →
      (posting : Filed) → Among posting s.net.postings → count (key_of posting) messages ≡ 1
  -- Over all these packets each address is sent each message at most once, and none that had been scanned before.
  pub sent_once : (packets : List Packet) → Paired ReadsAs s.net.packets packets → (address : Address) (key : Key) → sent_count address key packets ≤ 1
  pub not_again : (packets : List Packet) → Paired ReadsAs s.net.packets packets → (m : Filed) → Among m (take first.cursor first.messages) →
      (address : Address) → sent_count address (key_of m) packets ≡ 0
  -- Nor is one that waits for a scan.
  pub waiting : (packets : List Packet) → Paired ReadsAs s.net.packets packets →
      (file : LinkFile) (messages : List Filed) (cursor : ℕ) → LoneSays s file messages cursor → (m : Filed) → Among m (drop cursor messages) →
      (address : Address) → sent_count address (key_of m) packets ≡ 0

-- The disks have a net of the station alone that is so in order. Each of its packets has its name or will get it.
pub record HasOrderSince (first : Base) (s : LoneDisks) : Type 0 where
  pub net : Net
  pub has : HasNet s.disks net
  pub in_order : GoesOnInOrder first (on_net s net)

-- From any base on, whatever its link file becomes, any commands with any stops, and any input files of `toss`, leave it so.
abbrev pub AloneGoesOn : Type 0
AloneGoesOn = (links : List ℕ) (file : LinkFile) → LinksOf links (Ok file) → (first : Base) → IsBase first.messages first.cursor
    → (epochs : List LoneEpoch) → AreWithFiles epochs → (s : LoneDisks) → MayHappenInEpochs epochs (lone_disks_from links first) s → HasOrderSince first s
