-- A scan on a station of a disk.
use Rattle.std.specs.{Prelude.{◌≡◌, ◌⊎◌, ◌<◌, ◌≤◌, ◌^◌, ◌++◌, ℕ, List, [], length, map, None, Some, Result, Ok, Err}, List.AllByRecursion}
use Rattle.{base_file.specs.Base.Base, base_store.specs.Store.all_scanned, disk_io.specs.Disk.{DiskState, Files}, echo_links.specs.{Links.LinkFile, LinkLines.LinksOf}}
use Rattle.{disk_atomic.specs.StagingPaths.{dotted, staging_path}, cmd_status.specs.declared.fault.Fault.Fault, model_steps.specs.PacketFiles.PacketFile}
use Rattle.{model_steps.specs.declared.stamp.Stamp.Stamp, cmd_store.specs.declared.command_error.CommandError.TheVariants.Met, station.specs.Place.Place}
use Rattle.station_scan.specs.{Scanning.IsTouched, declared.scan_error.ScanError.{ScanError, TheVariants.Command}}
use Rattle.law_stations.specs.{OnDisks.{IsAsBefore, IsLinkedOn, IsStationAt, LeavesElsewhere, ReadsLinks, ShowsStation}, Commands.Scan}
use Rattle.law_stations.specs.{Nets.{Station, bytes_of}, Disks.Disks, PacketNames.{IsFolderIn, IsFolderOn, IsListed, ShowsFolder}}
use Rattle.law_stations.specs.Stopping.{EndsSome, HasNoneStaged, PartialEffect, staging_of}

-- The packet is whole at its path.
abbrev pub IsAtPath : List ℕ → Files → PacketFile → Type 0
IsAtPath outbound c packet = c (outbound ++ packet.name) ≡ Some packet.bytes

-- The packet is whole at its staging path, and no file has its path.
abbrev pub IsStagingPath : List ℕ → List ℕ → Files → PacketFile → Type 0
IsStagingPath outbound own c packet = (c (staging_path (outbound ++ packet.name) own) ≡ Some packet.bytes) × (c (outbound ++ packet.name) ≡ None)

-- The link file and the base are those of the station after a scan of this base that got this far: its cursor is at the end. Some of its
-- packets are whole at their paths: these got their names. The others are whole at their staging paths, and wait.
pub record AreAfterScan (stamp : Stamp) (place : Place) (links outbound : List ℕ) (i : ℕ) (d ended : Disks) (base : Base) (c : Files) : Type 0 where
  pub after : Disks
  pub leads : PartialEffect (Scan stamp) d i after
  pub shows : ShowsStation place links i c after
  pub moved : shows.station.base ≡ all_scanned base
  pub file : LinkFile
  pub says : LinksOf shows.station.links (Ok file)
  pub named : List PacketFile
  pub waiting : List PacketFile
  pub got_names : after.net.packets ≡ ended.net.packets ++ map bytes_of named
  pub wait : after.staging ≡ ended.staging ++ map (staging_of i base.cursor) waiting
  pub at_paths : AllByRecursion (IsAtPath outbound c) named
  pub staging_paths : AllByRecursion (IsStagingPath outbound (dotted file.system) c) waiting

-- A cursor of a base: it is no further than its end, and four bytes count to it.
abbrev pub IsCounted : Base → Type 0
IsCounted base = (base.cursor ≤ length base.messages) × (base.cursor < 2 ^ 32)

-- Let the list of earlier packets be true, the folder be as the first net has it, and the base be one of fewer than 2^32 scanned
-- messages. Then in these files the folder is as the other net has it.
abbrev pub KeepsFolder : (Files → Type 0) → Place → List ℕ → ℕ → Station → DiskState → Disks → Station → Files → Disks → Type 0
KeepsFolder IsTrue place outbound i was old d station c next =
    IsListed IsTrue place.is_own old → IsCounted was.base → ShowsFolder place outbound i was old d → IsFolderIn place outbound i station c next

-- Let the list of earlier packets be true, and the folder be as the first net has it. Then the folder is on the disk.
abbrev pub SettlesFolder : (Files → Type 0) → Place → List ℕ → ℕ → Station → DiskState → Disks → DiskState → Type 0
SettlesFolder IsTrue place outbound i was old d new = IsListed IsTrue place.is_own old → ShowsFolder place outbound i was old d → IsFolderOn place outbound new

-- The station, with its folder, after the commit of a scan.
pub record IsAfterCommit (stamp : Stamp) (IsTrue : Files → Type 0) (place : Place) (links outbound : List ℕ) (i : ℕ) (d ended : Disks) (was : Station) (old : DiskState) (c : Files) : Type 0 where
  pub scan : AreAfterScan stamp place links outbound i d ended was.base c
  pub folder : KeepsFolder IsTrue place outbound i was old d scan.shows.station c scan.after

-- The disk shows the link file and the base of the station after a scan without a waiting packet. The next command finds
-- them so, and each crash leaves them so.
pub record IsAfterScan (stamp : Stamp) (IsTrue : Files → Type 0) (place : Place) (links outbound : List ℕ) (i : ℕ) (d ended : Disks) (was : Station) (old new : DiskState) : Type 0 where
  pub scan : AreAfterScan stamp place links outbound i d ended was.base new.seen
  pub folder : KeepsFolder IsTrue place outbound i was old d scan.shows.station new.seen scan.after
  pub folder_on_disk : SettlesFolder IsTrue place outbound i was old d new
  pub none_waits : scan.waiting ≡ []
  pub at : IsStationAt place links i new scan.after
  pub on_disk : (c : Files) → new.may_leave c → ShowsStation place links i c scan.after

-- A place, and all paths of packets in a folder.
abbrev pub with_packets_in : List ℕ → Place → Place
with_packets_in outbound place = record { represents = place.represents; is_own = λ m. IsTouched place.is_own outbound m }

-- The station before the commit of a scan. Its folder is that of the net in which the packets of earlier scans have their names.
pub record IsBeforeCommit (IsTrue : Files → Type 0) (place : Place) (links outbound : List ℕ) (i : ℕ) (d ended : Disks) (was : Station) (old : DiskState) (c : Files) : Type 0 where
  pub shows : ShowsStation place links i c d
  pub folder : KeepsFolder IsTrue place outbound i was old d shows.station c ended

-- A scan does on the disk what its command event may do.
pub record ScansAsEvent (stamp : Stamp) (place : Place) (links outbound : List ℕ) (IsTrue : Files → Type 0) (i : ℕ) (d ended : Disks) (was : Station) (old new : DiskState) (result : Result (Unit {0}) ScanError) : Type 0 where
  -- The packets of earlier scans can be finished so.
  pub finished : (n : ℕ) × EndsSome n i d ended
  -- A crash at any time leaves one of three things: what a crash before could have left; the station unchanged, with earlier
  -- packets finished in part; or the station and the packets as after the event.
  pub crash : (c : Files) → new.left_since old.moment c → old.may_leave c ⊎ (IsBeforeCommit IsTrue place links outbound i d ended was old c ⊎ IsAfterCommit stamp IsTrue place links outbound i d ended was old c)
  -- If it ends well, they are as after the event, and no packet waits.
  pub done : result ≡ Ok tt → IsAfterScan stamp IsTrue place links outbound i d ended was old new
  -- A crash leaves them so.
  pub on_disk : result ≡ Ok tt → (c : Files) → new.may_leave c → (after : AreAfterScan stamp place links outbound i d ended was.base c) × (after.waiting ≡ [])
  -- However it ended, except by a fault, a crash leaves the station unchanged or as after the event.
  pub lasts : ((fault : Fault) → result ≡ Err (Command (Met fault)) → ⊥) → (c : Files) → new.may_leave c → ShowsStation place links i c d ⊎ AreAfterScan stamp place links outbound i d ended was.base c
  -- If it met a fault, a crash leaves a state that a crash before could have left, or both unchanged.
  pub stopped : (fault : Fault) → result ≡ Err (Command (Met fault)) → (c : Files) → new.left_since old.moment c → old.may_leave c ⊎ ShowsStation place links i c d
  -- The link file is unchanged, on the disk.
  pub same_links : new.seen links ≡ old.seen links
  pub linked : IsLinkedOn links new
  -- Everything elsewhere is unchanged, except packets.
  pub elsewhere : LeavesElsewhere (with_packets_in outbound place) old new

-- At each station of a net that the disk shows in this place. The packets that stopped scans left are
-- finished as in the event, and the station's link file has no path of a packet.
abbrev pub ScansAsMay : Stamp → Place → List ℕ → (Files → Type 0) → (LinkFile → Type 0) → DiskState → DiskState → Result (Unit {0}) ScanError → Type 0
ScansAsMay stamp place outbound IsTrue Reads old new result = (links : List ℕ) (i : ℕ) (d : Disks) (n : ℕ) (ended : Disks) → ReadsLinks Reads links old → (IsTouched place.is_own outbound links → ⊥)
    → (at : IsStationAt place links i old d) → EndsSome n i d ended → HasNoneStaged i ended.staging
    → ScansAsEvent stamp place links outbound IsTrue i d ended at.shows.station old new result

-- Each station that the disk shows in this place is as before a scan that met a fault, unless it is shut for that.
abbrev pub StaysWhereScanMet : Place → List ℕ → (Fault → Type 0) → DiskState → DiskState → Result (Unit {0}) ScanError → Type 0
StaysWhereScanMet place outbound IsShut old new result = (links : List ℕ) (i : ℕ) (d : Disks) → (IsTouched place.is_own outbound links → ⊥) → IsStationAt place links i old d
    → (fault : Fault) → result ≡ Err (Command (Met fault)) → IsAsBefore place links i d new ⊎ IsShut fault
