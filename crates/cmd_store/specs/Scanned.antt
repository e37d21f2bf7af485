-- The output of `scan` for the base in a store, and its packets.
use Rattle.std.specs.{Prelude.{◌≡◌, true, false, ℕ, List, map, Result, Ok, Err}, List.flat_map}
use Rattle.model_steps.specs.{PacketFiles.PacketFile, declared.fault.ScanFault.TheVariants.BadStamp, declared.stamp.Stamp.Stamp, Scanning.scanned, Stamps.is_stamp, SystemState.SystemState}
use Rattle.cmd_status.specs.{declared.fault.Fault.Fault, declared.fault.Fault.TheVariants.Scan, Devices.Output}
use Rattle.cmd_store.specs.{PacketLines.file_sent, PacketLines.line_sent, declared.command_error.CommandError.CommandError, Answered.AnswersOn}

-- The scan of a system: a line for each of its packets, and their files.
pub record IsScannedAt (stamp : Stamp) (system : SystemState) (lines : List ℕ) (files : List PacketFile) : Type 0 where
  pub moment : is_stamp stamp ≡ true
  pub printed : lines ≡ flat_map line_sent (scanned system.file system.base system.cursor stamp)
  pub packets : files ≡ map (file_sent system.cursor) (scanned system.file system.base system.cursor stamp)

abbrev pub files_scanned : Stamp → SystemState → Result (Unit {0}) CommandError → Result (List PacketFile) CommandError
files_scanned stamp system (Ok done) = Ok (map (file_sent system.cursor) (scanned system.file system.base system.cursor stamp))
files_scanned stamp system (Err why) = Err why

-- A part of the stamp is out of its range.
abbrev pub IsUnscannedAt : Stamp → Fault → Type 0
IsUnscannedAt stamp fault = (fault ≡ Scan BadStamp) × (is_stamp stamp ≡ false)

abbrev pub ScansOn : Stamp → SystemState → Output → Output → Result (List PacketFile) CommandError → Type 0
ScansOn stamp system old new result = AnswersOn (IsScannedAt stamp system) (IsUnscannedAt stamp) old new result
