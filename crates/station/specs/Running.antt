-- A command is run on a station.
use Rattle.std.specs.Prelude.{◌≡◌, ◌⊎◌, Bool, Result, Err, IfErr, OnOk, IsErrOf}
use Rattle.{base_file.specs.Base.Base, disk_io.specs.Disk.{DiskState, Files}}
use Rattle.{disk_io.specs.Runs.{ChangesNothing, LeavesOnly}, echo_links.specs.Links.LinkFile, cmd_status.specs.{declared.fault.Fault.Fault, Devices.Output}}
use Rattle.base_store.specs.{Store.StoreState, declared.store_error.StoreError.TheVariants.{Damaged, Device}}
use Rattle.{cmd_store.specs.{declared.command_error.CommandError.{CommandError, TheVariants.{Met, Store}}, Bounded.IsPast}, echo_filed.specs.Filed.Filed}
use Rattle.station.specs.{Opening.IsOpenFor, Place.{IsOfPlace, Place, SameElsewhere, RepresentsOrWasLeft}}

-- The files hold a base that the command makes, as they are seen and after any crash.
pub record IsKept (place : Place) (IsMade : Base → Type 0) (now : DiskState) : Type 0 where
  pub next : Base
  pub made : IsMade next
  pub seen : place.represents next now.seen
  pub represented : (c : Files) → now.may_leave c → place.represents next c

-- The files hold the base from before, or one that the command makes; nothing elsewhere has changed.
pub record RepresentsMadeAlone (place : Place) (old : DiskState) (IsMade : Base → Type 0) (base : Base) (c : Files) : Type 0 where
  pub elsewhere : SameElsewhere place old c
  pub represented : place.represents base c ⊎ ((next : Base) × IsMade next × place.represents next c)

-- These files, or a state that a crash before could have left.
abbrev pub MadeOrWasLeft : Place → DiskState → (Base → Type 0) → Base → Files → Type 0
MadeOrWasLeft place old IsMade base c = RepresentsMadeAlone place old IsMade base c ⊎ old.may_leave c

-- The files hold the base from before, as they are seen and after any crash, during the run or later.
pub record RepresentsAsBefore (place : Place) (old new : DiskState) (base : Base) : Type 0 where
  pub crash : LeavesOnly old new (RepresentsOrWasLeft place old base)
  pub seen : place.represents base new.seen
  pub represented : (c : Files) → new.may_leave c → place.represents base c

-- If the store did not fail, the files hold the base from before.
abbrev pub RepresentsWhereMet : Place → DiskState → DiskState → Base → CommandError → Type 0
RepresentsWhereMet place old new base (Met fault) = RepresentsAsBefore place old new base
RepresentsWhereMet place old new base (Store cause) = Unit {0}

-- The result of a run on a station that held this base.
pub record IsRunOn {A : Type 0} (IsAnswer : Type 0) (Makes May : Base → Type 0) (place : Place) (old new : DiskState) (base : Base) (result : Result A CommandError) : Type 0 where
  pub answer : IsAnswer
  pub kept : OnOk result (IsKept place Makes new)
  pub met : IfErr result (RepresentsWhereMet place old new base)
  pub crash : LeavesOnly old new (MadeOrWasLeft place old May base)
  pub whole : IsErrOf result (Store Damaged) → ⊥

-- The command was run with this link file, for each base that the files held.
pub record IsRun {A : Type 0} (IsAnswer : LinkFile → Base → Type 0) (Makes May : LinkFile → Base → Base → Type 0) (place : Place) (Reads : LinkFile → Type 0) (failed : Type 0) (old new : DiskState) (result : Result A CommandError) : Type 0 where
  pub file : LinkFile
  pub read : Reads file
  pub runs : (base : Base) → place.represents base old.seen → IsRunOn (IsAnswer file base) (Makes file base) (May file base) place old new base result
  pub cause : IsErrOf result (Store Device) → failed

-- The command was not run, for this reason. Nothing is printed, and a crash leaves the base from before.
pub record IsNotRun {A : Type 0} (place : Place) (Shut : Fault → Type 0) (old new : DiskState) (old_out new_out : Output) (result : Result A CommandError) : Type 0 where
  pub fault : Fault
  pub is : result ≡ Err (Met fault)
  pub cause : Shut fault
  pub printed : new_out ≡ old_out
  pub crash : (base : Base) → place.represents base old.seen → LeavesOnly old new (RepresentsOrWasLeft place old base)

-- The program stopped the command on the open station, for this reason. Nothing is printed, and the base is unchanged.
pub record IsStopped {A : Type 0} (place : Place) (Stops : Fault → Type 0) (old new : DiskState) (old_out new_out : Output) (result : Result A CommandError) : Type 0 where
  pub fault : Fault
  pub is : result ≡ Err (Met fault)
  pub cause : Stops fault
  pub printed : new_out ≡ old_out
  pub represented : (base : Base) → place.represents base old.seen → RepresentsAsBefore place old new base

-- The result of a command on a station. It is not run if the station is shut, as its fault says, or if the program stops it.
abbrev pub RunsIn : {A : Type 0} → (LinkFile → Base → Type 0) → (LinkFile → Base → Base → Type 0) → (LinkFile → Base → Base → Type 0) → Place → (LinkFile → Type 0) → (Fault → Type 0) → (Fault → Type 0) → Type 0
    → DiskState → DiskState → Output → Output → Result A CommandError → Type 0
RunsIn IsAnswer Makes May place Reads Shut Stops failed old new old_out new_out result =
    IsRun IsAnswer Makes May place Reads failed old new result
    ⊎ (IsNotRun place Shut old new old_out new_out result ⊎ IsStopped place Stops old new old_out new_out result)

-- A command ends well only where the files hold a base. Where they hold none, it is not run, and nothing changes.
pub record NeedsBase {T E : Type 0} (Holds NotRun : Type 0) (old new : DiskState) (result : Result T E) : Type 0 where
  pub whole : OnOk result Holds
  pub refused : (Holds → ⊥) → NotRun
  pub untouched : (Holds → ⊥) → ChangesNothing old new

-- The store of the station held too much for a command that may add these messages. A crash leaves the base from before.
pub record IsRefusedFull {K : Type 0} (state : K → StoreState) (held : Bool) (Adds : LinkFile → Base → Filed → Type 0) (May : LinkFile → Base → Base → Type 0) (place : Place) (Reads : LinkFile → Type 0) (old new : DiskState) : Type 0 where
  pub file : LinkFile
  pub read : Reads file
  pub kept : K
  pub begun : IsOpenFor place old (state kept)
  pub of_place : IsOfPlace place old (state kept)
  pub past : IsPast held state (Adds file) (May file) (state kept)
  pub crash : (base : Base) → place.represents base old.seen → LeavesOnly old new (RepresentsOrWasLeft place old base)

-- The disk is that of a store of the station, and each look at its messages ended well.
pub record EndsSound {K : Type 0} (state : K → StoreState) (now : DiskState) : Type 0 where
  pub kept : K
  pub sound : (state kept).is_sound
  pub quiet : ChangesNothing (state kept).disk now
