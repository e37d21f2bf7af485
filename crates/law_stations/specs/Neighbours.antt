-- Other stations on the same disk.
use Rattle.std.specs.Prelude.{◌≡◌, ◌≢◌, ℕ, List}
use Rattle.{base_file.specs.Base.Base, disk_io.specs.Disk.{DiskState, Files}, model_run.specs.Run.nth}
use Rattle.{station.specs.Place.Place, law_stations.specs.{Commands.CommandEvent, Disks.Disks, Stopping.MayHappen}}
use Rattle.law_stations.specs.OnDisks.{IsStationAt, LeavesElsewhere, ShowsStation}

-- Each file of a place with a synced name and synced bytes is as the disk shows it.
abbrev pub SameOnDisk : Place → DiskState → Files → Type 0
SameOnDisk place disk c = (m : List ℕ) → place.is_own m → disk.is_named m → disk.is_flushed m → c m ≡ disk.seen m

-- A base is on the disk: the files of its place hold it after any loss of unsynced files.
abbrev pub IsKeptOn : Place → Base → DiskState → Type 0
IsKeptOn place base disk = (c : Files) → SameOnDisk place disk c → place.represents base c

-- The disk shows the link file and the base of a station, and both are on the disk.
pub record RepresentsOnDisk (place : Place) (links : List ℕ) (i : ℕ) (disk : DiskState) (d : Disks) : Type 0 where
  pub at : IsStationAt place links i disk d
  pub kept : IsKeptOn place at.shows.station.base disk

-- No file of a station is one of another place.
pub record IsApart (other : Place) (links : List ℕ) (place : Place) : Type 0 where
  pub own : (m : List ℕ) → other.is_own m → place.is_own m → ⊥
  pub outside : place.is_own links → ⊥

-- After a command event at another station this station is unchanged on the disk, also after a crash during the command.
pub record StaysOnDisk (place : Place) (links : List ℕ) (i : ℕ) (old new : DiskState) (d after : Disks) : Type 0 where
  pub same : nth i after.net.stations ≡ nth i d.net.stations
  pub crash : (c : Files) → new.left_since old.moment c → ShowsStation place links i c after
  pub at : RepresentsOnDisk place links i new after

-- A command in one place does not change a station elsewhere: after any stop of the command event at another station,
-- the net shows the same station.
abbrev pub OthersStay : Place → Place → DiskState → DiskState → Type 0
OthersStay place other old new = (links : List ℕ) (i : ℕ) (event : CommandEvent) (d after : Disks) → LeavesElsewhere place old new → IsApart other links place
    → RepresentsOnDisk other links i old d → i ≢ event.station → MayHappen event d after → StaysOnDisk other links i old new d after
