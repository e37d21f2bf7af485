-- A station alone as a net of one: what others sent are the first packet files of the net, and the packets of its own scans follow.
use Rattle.std.specs.Prelude.{◌≡◌, ℕ, List, [], ◌∷◌, ◌++◌, drop, length, take, Some, Ok}
use Rattle.{echo_links.specs.{Links.LinkFile, LinkLines.LinksOf}, cmd_store.specs.Coming.Coming, disk_io.specs.Disk.DiskState}
use Rattle.{model_graph.specs.Walk.Among, model_run.specs.Run.nth, station.specs.Place.Place}
use Rattle.law_stations.specs.{AloneOverCrashes.AloneHasOrder, AnyDisks.disks_at, Commands.{Command, CommandEvent, IsPacketAt, Post, Purge, Scan, Toss}, Disks.Disks}
use Rattle.law_stations.specs.{LoneDisks.{LoneDisks, MayHappenAllAlone, lone_disks_at_first}, LoneStations.{LoneCommand, PostAlone, PurgeAlone, ScanAlone, TossAny}}
use Rattle.law_stations.specs.{Nets.{Net, Paired, new_station}, Sequences.AlwaysHaveItsPackets, Stopping.MayHappenAll}
use Rattle.law_stations.specs.{Seats.{AreSeated, Seat}, Steps.{GoesOn, Step, after_all, commands_of}}

-- The net without its first packet files. Whether a packet was tossed whole is told beside it.
abbrev pub net_without : ℕ → Net → Net
net_without n net = record { stations = net.stations; packets = drop n net.packets; delivered = []; postings = net.postings }

-- The disks without these packet files, as a station alone has them; the files that came, and those that were tossed whole.
abbrev pub disks_without : ℕ → Disks → List (List ℕ) → List (List ℕ) → LoneDisks
disks_without n d came whole = record { disks = record { net = net_without n d.net; staging = d.staging }; came = came; whole = whole }

-- The command as one of the station alone. A toss has packet files of the net, perhaps only some first ones.
abbrev pub IsDoneAlone : List (List ℕ) → Command → LoneCommand → Type 0
IsDoneAlone packets (Post words body) lone = lone ≡ PostAlone words body
IsDoneAlone packets (Scan stamp) lone = lone ≡ ScanAlone stamp
IsDoneAlone packets (Purge range) lone = lone ≡ PurgeAlone range
IsDoneAlone packets (Toss indexes) lone = (n : ℕ) × (files : List Coming) × Paired (IsPacketAt packets) (take n indexes) files × (lone ≡ TossAny files)

-- The disks of the net, without the packet files of others, are those of a station alone after these commands. So it is in order.
pub record HasOrderAmong (links : List ℕ) (foreign : List (List ℕ)) (commands : List CommandEvent) (d : Disks) : Type 0 where
  pub own : (sent : List (List ℕ)) × (d.net.packets ≡ foreign ++ sent)
  pub alone : List LoneCommand
  pub are : Paired (λ event lone. IsDoneAlone d.net.packets event.command lone) commands alone
  -- What came are packet files of the net. Those that the net has as tossed whole were tossed whole.
  pub came : List (List ℕ)
  pub among : (bytes : List ℕ) → Among bytes came → Among bytes d.net.packets
  pub whole : List (List ℕ)
  pub tossed : (k : ℕ) → Among k d.net.delivered → (bytes : List ℕ) × (nth k d.net.packets ≡ Some bytes) × Among bytes whole
  pub happen : MayHappenAllAlone alone (lone_disks_at_first links) (disks_without (length foreign) d came whole)
  pub order : AloneHasOrder alone (disks_without (length foreign) d came whole)

-- All commands are called at the first station.
abbrev pub AreAtFirst : List CommandEvent → Type 0
AreAtFirst commands = (event : CommandEvent) → Among event commands → event.station ≡ 0

-- Any commands with any stops at the station of a net of one leave it in order, whatever files of others they toss.
abbrev pub NetOfOneIsInOrder : Type 0
NetOfOneIsInOrder = (links : List ℕ) (file : LinkFile) → LinksOf links (Ok file) → (foreign : List (List ℕ)) (commands : List CommandEvent) → AreAtFirst commands
    → (d : Disks) → MayHappenAll commands (disks_at (new_station links ∷ []) foreign []) d → HasOrderAmong links foreign commands d

-- After any steps the disk shows a net in which the station is in order. Each file that had a packet's name in its folder is of that net.
pub record ShowsOrderAmong {D Kept : Type 0} (state : D → DiskState) (place : Kept → Place) (seat : Seat Kept) (links : List ℕ) (foreign : List (List ℕ)) (steps : List (Step D)) (disks : List D) (last : Disks) : Type 0 where
  pub order : HasOrderAmong links foreign (commands_of steps) last
  pub seated : AreSeated state place (seat ∷ []) (after_all steps disks) last
  pub sent : AlwaysHaveItsPackets state place (seat ∷ []) last.net steps disks

-- Any steps at one station on a disk, which began with an empty base.
abbrev pub LoneSequencesAreInOrder : {D Kept : Type 0} → (D → DiskState) → (Kept → Place) → Type 0
LoneSequencesAreInOrder {D} {Kept} state place = (links : List ℕ) (file : LinkFile) → LinksOf links (Ok file) → (foreign : List (List ℕ)) (seat : Seat Kept) (steps : List (Step D)) (disks : List D) (last : Disks)
    → AreSeated state place (seat ∷ []) disks (disks_at (new_station links ∷ []) foreign []) → GoesOn state place (seat ∷ []) steps disks (disks_at (new_station links ∷ []) foreign []) last
    → ShowsOrderAmong state place seat links foreign steps disks last
