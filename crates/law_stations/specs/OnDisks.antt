-- A link file and a base on a disk as those of a station in a net, for every kind of base.
use Rattle.std.specs.Prelude.{◌≡◌, ◌⊎◌, ℕ, List, Option, Some, Result, Ok, Err}
use Rattle.{base_file.specs.Base.Base, disk_io.specs.Disk.{DiskState, Files}}
use Rattle.{echo_links.specs.Links.LinkFile, model_run.specs.Run.nth, station.specs.{Links.AreLinks, Place.{KeepsElsewhere, Place, SameElsewhere}}}
use Rattle.{cmd_status.specs.declared.fault.Fault.Fault, cmd_store.specs.{Coming.Coming, declared.command_error.CommandError.{CommandError, TheVariants.Met}}}
use Rattle.law_stations.specs.{Commands.{Command, IsPacketAt, whole_of}, Kinds.IsToss, Nets.{Paired, Station, with_indexes}, Disks.Disks}
use Rattle.law_stations.specs.Stopping.{PartialEffect}

-- This path has the link file of the station of this index, and the files hold its base.
pub record ShowsStation (place : Place) (links : List ℕ) (i : ℕ) (c : Files) (d : Disks) : Type 0 where
  pub station : Station
  pub there : nth i d.net.stations ≡ Some station
  pub of_links : c links ≡ Some station.links
  pub represented : place.represents station.base c

-- The link file is on the disk.
pub record IsLinkedOn (links : List ℕ) (disk : DiskState) : Type 0 where
  pub named : disk.is_named links
  pub flushed : disk.is_flushed links

-- Between two commands the disk shows the link file and the base of a station. The link file is no file of the base.
pub record IsStationAt (place : Place) (links : List ℕ) (i : ℕ) (disk : DiskState) (d : Disks) : Type 0 where
  pub shows : ShowsStation place links i disk.seen d
  pub linked : IsLinkedOn links disk
  pub outside : place.is_own links → ⊥

-- A command of this kind at the station leads to these disks.
pub record LeadsFarBy (IsCommand : Command → Type 0) (i : ℕ) (d after : Disks) : Type 0 where
  pub command : Command
  pub is : IsCommand command
  pub leads : PartialEffect command d i after

-- Or nothing has changed.
abbrev pub MayLeadBy : (Command → Type 0) → ℕ → Disks → Disks → Type 0
MayLeadBy IsCommand i d after = (after ≡ d) ⊎ LeadsFarBy IsCommand i d after

-- Files that a crash left are those of the station as before a command of this kind, or after it.
pub record AreAsMay (IsCommand : Command → Type 0) (place : Place) (links : List ℕ) (i : ℕ) (d : Disks) (c : Files) : Type 0 where
  pub after : Disks
  pub leads : MayLeadBy IsCommand i d after
  pub shows : ShowsStation place links i c after

-- The disk shows the link file and the base of the station after a command of this kind. Each crash leaves them so, and the
-- next command finds them so.
pub record IsAfter (IsCommand : Command → Type 0) (place : Place) (links : List ℕ) (i : ℕ) (d : Disks) (new : DiskState) : Type 0 where
  pub after : Disks
  pub leads : LeadsFarBy IsCommand i d after
  pub at : IsStationAt place links i new after
  pub on_disk : (c : Files) → new.may_leave c → ShowsStation place links i c after

-- The disk shows the link file and the base of the station as before a command. Each crash leaves them so, and the next
-- command finds them so.
pub record IsAsBefore (place : Place) (links : List ℕ) (i : ℕ) (d : Disks) (new : DiskState) : Type 0 where
  pub at : IsStationAt place links i new d
  pub on_disk : (c : Files) → new.may_leave c → ShowsStation place links i c d

-- Files elsewhere stay. A crash at any time leaves what a crash before could have left, or each file elsewhere that
-- was on the disk.
pub record LeavesElsewhere (place : Place) (old new : DiskState) : Type 0 where
  pub crash : (c : Files) → new.left_since old.moment c → old.may_leave c ⊎ SameElsewhere place old c
  pub keeps : KeepsElsewhere place old new

-- A command does on the disk what the command event may do.
pub record RefinesEvent {A : Type 0} (IsCommand : Command → Type 0) (place : Place) (links : List ℕ) (i : ℕ) (d : Disks) (old new : DiskState) (result : Result A CommandError) : Type 0 where
  -- A crash at any time leaves what one before it might have left, or the station as before the event or after it.
  pub crash : (c : Files) → new.left_since old.moment c → old.may_leave c ⊎ AreAsMay IsCommand place links i d c
  -- If it ends well, they are as after the event.
  pub done : (value : A) → result ≡ Ok value → IsAfter IsCommand place links i d new
  -- If it met a fault, a crash leaves what a crash before could have left, or both unchanged.
  pub stopped : (fault : Fault) → result ≡ Err (Met fault) → (c : Files) → new.left_since old.moment c → old.may_leave c ⊎ ShowsStation place links i c d
  -- The link file is unchanged, on the disk.
  pub same_links : new.seen links ≡ old.seen links
  pub linked : IsLinkedOn links new
  -- Everything elsewhere is unchanged.
  pub elsewhere : LeavesElsewhere place old new

-- Each link file that is read is what the disk shows at this path.
abbrev pub ReadsLinks : (LinkFile → Type 0) → List ℕ → DiskState → Type 0
ReadsLinks Reads links disk = (file : LinkFile) → Reads file → AreLinks disk links file

-- At each station of a net that the disk shows in this place a command does what a command event of this kind may do.
-- The kind may depend on the base of the station.
abbrev pub AsMay : {A : Type 0} → (Base → Command → Type 0) → Place → (LinkFile → Type 0) → DiskState → DiskState → Result A CommandError → Type 0
AsMay IsCommand place Reads old new result = (i : ℕ) (d : Disks) (links : List ℕ) → ReadsLinks Reads links old → (at : IsStationAt place links i old d)
    → RefinesEvent (IsCommand at.shows.station.base) place links i d old new result

-- Each station that the disk shows in this place is as before a command that met a fault, unless it is shut for that.
abbrev pub StaysWhereMet : {A : Type 0} → Place → (Fault → Type 0) → DiskState → DiskState → Result A CommandError → Type 0
StaysWhereMet place IsShut old new result = (i : ℕ) (d : Disks) (links : List ℕ) → IsStationAt place links i old d → (fault : Fault) → result ≡ Err (Met fault)
    → IsAsBefore place links i d new ⊎ IsShut fault

-- The packets that a toss with this answer tossed whole are delivered: all if nothing stopped it, else those without
-- the files that it left.
pub record IsAfterToss (indexes : List ℕ) (left : List Coming) (place : Place) (links : List ℕ) (i : ℕ) (d : Disks) (new : DiskState) (answer : Option Fault) : Type 0 where
  pub at : IsAfter (IsToss indexes) place links i d new
  pub delivered : at.after.net.delivered ≡ with_indexes (whole_of indexes answer left) d.net.delivered

-- A toss of the packet files of these indexes does on the disk what the command event may do. If it ends well, it
-- does exactly what it returns.
pub record TossesAsEvent (indexes : List ℕ) (left : List Coming) (place : Place) (links : List ℕ) (i : ℕ) (d : Disks) (old new : DiskState) (result : Result (Option Fault) CommandError) : Type 0 where
  pub does : RefinesEvent (IsToss indexes) place links i d old new result
  pub ends : (answer : Option Fault) → result ≡ Ok answer → IsAfterToss indexes left place links i d new answer

-- At any station of a net, if these are the packet files of these indexes, and the others are left of them.
abbrev pub TossesAsMay : List Coming → List Coming → Place → (LinkFile → Type 0) → DiskState → DiskState → Result (Option Fault) CommandError → Type 0
TossesAsMay files left place Reads old new result = (indexes : List ℕ) (i : ℕ) (d : Disks) (links : List ℕ) → Paired (IsPacketAt d.net.packets) indexes files → ReadsLinks Reads links old
    → IsStationAt place links i old d → TossesAsEvent indexes left place links i d old new result
