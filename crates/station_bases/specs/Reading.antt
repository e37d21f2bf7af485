-- The reading of the files of a station with its base in a file.
use Rattle.std.specs.Prelude.{◌≤◌, ◌⊎◌, ℕ, List}
use Rattle.{disk_io.specs.{Disk.DiskState, Runs.ChangesNothing}, station.specs.{Faults.FailsAt, Links.NoLinks}}
use Rattle.{station.specs.Place.Place, cmd_status.specs.{declared.fault.Fault.Fault, Ended.IsOutOfMemory, Inputs.IsBaseFault}}
use Rattle.station_bases.specs.InFile.{IsOfFile, RepresentsInFile}

-- The place of a base file: its path, and its staging path for each system.
abbrev pub file_place : List ℕ → Place
file_place path = record { represents = λ base c. RepresentsInFile path base c; is_own = λ m. (own : List ℕ) × IsOfFile path own m }

-- Nothing has changed, and the count of the device's failures has not fallen.
pub record ReadsOnly (old new : DiskState) (before now : ℕ) : Type 0 where
  pub quiet : ChangesNothing old new
  pub later : before ≤ now

-- The file with its name and bytes is on the disk, or its absence is.
pub record IsSettled (disk : DiskState) (path : List ℕ) : Type 0 where
  pub named : disk.is_named path
  pub flushed : disk.is_flushed path

-- The reason why the base file was not read.
abbrev pub IsUnreadFor : List ℕ → Type 0 → DiskState → Fault → Type 0
IsUnreadFor path failed old fault = FailsAt path failed fault ⊎ (IsOutOfMemory fault ⊎ IsBaseFault (old.seen path) fault)

-- The reason why the station was not read.
abbrev pub IsFileShut : List ℕ → List ℕ → Type 0 → DiskState → Fault → Type 0
IsFileShut links path failed old fault = NoLinks old links failed fault ⊎ IsUnreadFor path failed old fault

-- The station was not read, and nothing has changed.
abbrev pub IsShutFor : List ℕ → List ℕ → Type 0 → DiskState → DiskState → Fault → Type 0
IsShutFor links path failed old new fault = ChangesNothing old new × IsFileShut links path failed old fault
