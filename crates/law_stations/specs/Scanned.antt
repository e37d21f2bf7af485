-- The contracts of a scan and of a toss that ended well, as statements about the steps of a net.
use Rattle.std.specs.Prelude.{◌≡◌, ◌⊎◌, ℕ, List, [], Option, None, Result, Ok}
use Rattle.{base_file.specs.Base.Base, disk_io.specs.Disk.{DiskState, Files}}
use Rattle.{cmd_status.specs.declared.fault.Fault.Fault, model_steps.specs.declared.stamp.Stamp.Stamp, cmd_store.specs.Coming.Coming}
use Rattle.{cmd_store.specs.declared.command_error.CommandError.CommandError, station.specs.Place.Place, law_stations.specs.Steps.{HasEnded, IsAllOnDisk}}
use Rattle.{station_scan.specs.declared.scan_error.ScanError.ScanError, law_stations.specs.{Commands.{Command, Scan, whole_of}, Kinds.IsToss}}
use Rattle.law_stations.specs.{Nets.{Station, with_indexes}, Disks.Disks, OnDisks.{IsAsBefore, TossesAsEvent}, PacketNames.{IsListed, ShowsFolder}}
use Rattle.law_stations.specs.{Scans.{AreAfterScan, IsCounted, ScansAsEvent}, Asked.{GoesOnCut, GoesOnEnded, IsKeptWhereShared}, Seats.{Seat, RepresentsSeat}}

-- The packets that a toss tossed whole are delivered.
pub record GoesOnTossed {Kept : Type 0} (place : Kept → Place) (seats : List (Seat Kept)) (seat : Seat Kept) (i : ℕ) (indexes : List ℕ) (answer : Option Fault) (left : List Coming) (d : Disks) (old new : DiskState) : Type 0 where
  pub goes : GoesOnEnded (IsToss indexes) place seats seat i d old new
  pub delivered : goes.next.net.delivered ≡ with_indexes (whole_of indexes answer left) d.net.delivered

-- A toss that ended well.
abbrev pub TossesGoOn : {D Kept : Type 0} → (D → DiskState) → (Kept → Place) → Type 0
TossesGoOn {D} {Kept} state place = (seats : List (Seat Kept)) (seat : Seat Kept) (i : ℕ) (indexes : List ℕ) (left : List Coming) (d : Disks) (old new : D) (result : Result (Option Fault) CommandError) (answer : Option Fault)
    → RepresentsSeat place seats i seat (state old) d → TossesAsEvent indexes left (place seat.kept) seat.links i d (state old) (state new) result → result ≡ Ok answer → IsKeptWhereShared place seats seat i (state new)
    → GoesOnTossed place seats seat i indexes answer left d (state old) (state new)

-- The command is the scan with this timestamp.
abbrev pub IsScan : Stamp → Command → Type 0
IsScan stamp command = command ≡ Scan stamp

-- The files have the packets of the scan as the net has them after it: at their paths, or waiting at their staging paths.
abbrev pub HavePackets : Stamp → Place → List ℕ → List ℕ → ℕ → Disks → Disks → Base → Files → Disks → Type 0
HavePackets stamp place links outbound i d ended base c next = (after : AreAfterScan stamp place links outbound i d ended base c) × (after.after ≡ next)

-- Of a scan with this timestamp, where the net without earlier staging files is `finished`. If a crash cuts it, the net goes on by its
-- command event. Before the commit it is as it was, or only earlier staging files are finished. Then the files have the packets.
-- If the scan ends well, the net goes on so too, and no packet waits. If station and folder are unchanged, as after a
-- fault, the net goes on by no event.
pub record ScanGoesOn {D Kept : Type 0} (state : D → DiskState) (place : Kept → Place) (seats : List (Seat Kept)) (seat : Seat Kept) (i : ℕ) (stamp : Stamp) (d finished : Disks) (was : Station) (old whole : D) (result : Result (Unit {0}) ScanError) : Type 0 where
  pub cut : (begun : D) → (state whole).left_since (state old).moment (state begun).seen → IsAllOnDisk (state begun)
      → (goes : GoesOnCut (IsScan stamp) place seat i d (state old) (state whole) (state begun))
      × (((goes.next ≡ d) ⊎ (goes.next ≡ finished)) ⊎ HavePackets stamp (place seat.kept) seat.links seat.outbound i d finished was.base (state begun).seen goes.next)
  pub ended : result ≡ Ok tt → IsKeptWhereShared place seats seat i (state whole)
      → (goes : GoesOnEnded (IsScan stamp) place seats seat i d (state old) (state whole))
      × (have : HavePackets stamp (place seat.kept) seat.links seat.outbound i d finished was.base (state whole).seen goes.next) × (have.0.waiting ≡ [])
  pub none : IsAsBefore (place seat.kept) seat.links i d (state whole) → IsKeptWhereShared place seats seat i (state whole) → ShowsFolder (place seat.kept) seat.outbound i was (state whole) d
      → HasEnded place seats seat i None d d (state old) (state whole)

-- The list of earlier packets was true. The base is one, and of fewer than 2^32 scanned messages.
abbrev pub ScansGoOn : {D Kept : Type 0} → (D → DiskState) → (Kept → Place) → (Files → Type 0) → Type 0
ScansGoOn {D} {Kept} state place IsTrue = (seats : List (Seat Kept)) (seat : Seat Kept) (i : ℕ) (stamp : Stamp) (d ended : Disks) (old whole : D) (result : Result (Unit {0}) ScanError)
    → (represented : RepresentsSeat place seats i seat (state old) d) → IsListed IsTrue (place seat.kept).is_own (state old) → IsCounted represented.at.shows.station.base
    → ScansAsEvent stamp (place seat.kept) seat.links seat.outbound IsTrue i d ended represented.at.shows.station (state old) (state whole) result
    → ScanGoesOn state place seats seat i stamp d ended represented.at.shows.station old whole result
