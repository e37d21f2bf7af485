-- A scan once its cursor was moved: its packets are sent out, or it stops while they are made.
use Rattle.std.specs.Prelude.{◌≡◌, ◌≤◌, ◌⊎◌, ◌<◌, ℕ, List, All, Result, Ok, Err, IfErr, IsErrOf, OnOk}
use Rattle.{base_file.specs.Base.Base, disk_io.specs.Device.Failed}
use Rattle.{disk_io.specs.{Disk.{DiskState, Files, Honestly}, Runs.LeavesOnly, declared.disk_error.DiskError.DiskError}, disk_atomic.specs.Changes.DifferAt}
use Rattle.{disk_atomic.specs.declared.placing_error.PlacingError.PlacingError, cmd_status.specs.Devices.Output, model_steps.specs.PacketFiles.PacketFile}
use Rattle.{base_store.specs.Store.{HasStoreCause, LooksOn, StoreState, all_scanned}, cmd_store.specs.{Scanned.{ScansOn, files_scanned}, Stops.store_answer}}
use Rattle.{cmd_store.specs.declared.command_error.CommandError.{CommandError, TheVariants.{Met, Store}}, echo_steps.specs.Bounds.IsFullWhenRead}
use Rattle.{echo_steps.specs.PacketsIn.state_in, station.specs.Beneath.HoldsAsBefore}
use Rattle.station_scan.specs.{Sends.{AreSentOn, IsLeftAs, IsOfThese, SendsThese, WasTriedFor, WritesStaging}, Beneath.IsFullOnWay, Fitting.AreTaken}
use Rattle.station_scan.specs.{Passing.AreGoneOrSame, Publishing.KeepsStoreBut, Scanning.packets_in, Sending.{IsFreeAt, IsStagingOfPacket}}
use Rattle.station_scan.specs.{Stops.{IsOfPlacing, most}, declared.{pieces.ScanSource.ScanSource, sending.Sending.Sending, scan_error.ScanError.ScanError}}
use Rattle.station_scan.specs.declared.scan_error.ScanError.TheVariants.{Command, Placing, Staying}
use Rattle.disk_io.specs.declared.disk_error.DiskError.TheVariants as disk
use Rattle.disk_atomic.specs.declared.placing_error.PlacingError.TheVariants as placing
use Rattle.base_store.specs.declared.store_error.StoreError.TheVariants as error

-- The store committed this base, and holds it with the cursor at its end. The number is that of the cursor before.
pub record IsMoved (s : StoreState) (from : ℕ) (base : Base) : Type 0 where
  pub ready : s.is_ready
  pub keeps : s.keeps (all_scanned base)
  pub committed : s.committed base
  pub at : from ≡ base.cursor

-- These packets and the held base were sent out.
pub record SendsFrom {D : Type 0} (state : D → DiskState) (Own : List ℕ → Type 0) (outbound own : List ℕ) (failed : Type 0) (old new : StoreState) (base : Base) (files : List PacketFile) (result : Result (Unit {0}) ScanError) : Type 0 where
  pub sent : OnOk result (AreSentOn outbound own (λ b. files) old new)
  pub free : OnOk result (All (IsFreeAt outbound old.disk.seen) files)
  pub crash : LeavesOnly old.disk new.disk (SendsThese old outbound own files base (all_scanned base))
  pub keeps : KeepsStoreBut (IsOfThese old.is_own outbound own files) old new
  pub why : IfErr result (IsOfPlacing failed (AreTaken Own outbound own files old.disk.seen) (most < base.cursor))
  pub left : IfErr result (IsLeftAs outbound own (old.represented base) (old.represented (all_scanned base)) (λ m. ⊥) files old.disk.seen new.disk.seen)
  pub tried : HoldsAsBefore old new ⊎ WasTriedFor state Own outbound own files old.disk

-- It is reported why the scan stopped, and each staging file is gone or as before. Or it is reported that staging files may be left.
abbrev pub ReportsFrom : Type 0 → Files → Files → CommandError → Result (Unit {0}) ScanError → Type 0
ReportsFrom failed before after why result =
    ((result ≡ Err (Command why)) × AreGoneOrSame before after) ⊎ ((left : DiskError) × (result ≡ Err (Staying left)) × IsOfPlacing failed ⊥ ⊥ (Staying left))

-- The scan stopped while its packets were made. Except for their staging files nothing has changed.
pub record StopsFrom (outbound own : List ℕ) (failed : Type 0) (old new : StoreState) (base : Base) (files : List PacketFile) (why : CommandError) (result : Result (Unit {0}) ScanError) : Type 0 where
  pub crash : LeavesOnly old.disk new.disk (WritesStaging old outbound own files base)
  pub others : DifferAt (IsStagingOfPacket outbound own files) old.disk.seen new.disk.seen
  pub shown : old.represented base new.disk.seen
  pub reported : ReportsFrom failed old.disk.seen new.disk.seen why result

-- The packets that were made are sent out, or the scan stopped.
abbrev pub IsPutFrom : {D : Type 0} → (D → DiskState) → (List ℕ → Type 0) → List ℕ → List ℕ → Type 0 → StoreState → StoreState → Base → List PacketFile → Result (List PacketFile) CommandError → Result (Unit {0}) ScanError → Type 0
IsPutFrom state Own outbound own failed old new base packets (Ok files) result = SendsFrom state Own outbound own failed old new base files result
IsPutFrom state Own outbound own failed old new base packets (Err why) result = StopsFrom outbound own failed old new base packets why result

-- The result of a scan after leftover packets are finished.
pub record ScansFrom {D : Type 0} (state : D → DiskState) (Own : List ℕ → Type 0) (to : Sending) (failed : Type 0) (old new : StoreState) (old_out new_out : Output) (base : Base) (result : Result (Unit {0}) ScanError) : Type 0 where
  pub made : Result (List PacketFile) CommandError
  pub answer : ScansOn to.source.stamp (state_in to.source.links.now base) old_out new_out made
  pub put : IsPutFrom state Own to.outbound.now to.own.now failed old new base (packets_in to.source.stamp to.source.links.now base) made result
  pub whole : IsErrOf result (Command (Store error.Damaged)) → ⊥

-- A failure of the device is reported for the store only if its count of failures rose, and too much only if the store was full.
pub record HasScanCause {S : Type 0} (state : S → StoreState) (old : StoreState) (before now : ℕ) (result : Result (Unit {0}) ScanError) : Type 0 where
  pub later : before ≤ now
  pub device : IsErrOf result (Command (Store error.Device)) → Failed before now
  pub many : IsErrOf result (Command (Store error.TooMany)) → IsFullOnWay state old

-- the base with its cursor at this number
abbrev pub from_number : ℕ → Base → Base
from_number from base = record { messages = base.messages; cursor = from }

-- The packets of a scan if their lines were printed.
abbrev pub files_reported : ScanSource → Base → Result (Unit {0}) CommandError → Result (List PacketFile) CommandError
files_reported source base result = files_scanned source.stamp (state_in source.links.now (from_number source.from base)) result

-- The packets of the messages were counted, and their lines printed. The store was looked through.
pub record HasReported {S : Type 0} (state : S → StoreState) (source : ScanSource) (old new : StoreState) (before now : ℕ) (old_out new_out : Output) (result : Result (Unit {0}) CommandError) : Type 0 where
  pub answers : Honestly new.disk ((base : Base) → old.keeps base → ScansOn source.stamp (state_in source.links.now (from_number source.from base)) old_out new_out (files_reported source base result))
  pub looks : LooksOn old new
  pub many : IsErrOf (store_answer result) error.TooMany → IsFullWhenRead state old
  pub cause : HasStoreCause old new before now (store_answer result)

-- Why the scan stopped, once that was reported or could not be.
abbrev pub reported_as : ScanError → Result (Unit {0}) CommandError → Result (Unit {0}) ScanError
reported_as why (Ok done) = Err why
reported_as why (Err stop) = Err (Command stop)

-- Why leftover packets may have staging files still, where the lines could not be printed either.
abbrev pub left_cause : PlacingError → CommandError → DiskError
left_cause placing.Device stop = disk.Device
left_cause placing.Memory stop = disk.Memory
left_cause placing.Taken (Store error.Device) = disk.Device
left_cause placing.Taken (Store _) = disk.Memory
left_cause placing.Taken (Met fault) = disk.Memory

-- The same where leftover packets were not finished.
abbrev pub left_reported : PlacingError → Result (Unit {0}) CommandError → Result (Unit {0}) ScanError
left_reported cause (Ok done) = Err (Placing cause)
left_reported cause (Err stop) = Err (Staying (left_cause cause stop))
