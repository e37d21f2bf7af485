-- Packets in their staging files, and why a pass over the messages stops.
use Rattle.std.specs.Prelude.{◌≤◌, ℕ, [], All, Result, IsErrOf}
use Rattle.{base_file.specs.Base.Base, disk_io.specs.{Device.Failed, Disk.{DiskState, Honestly}}}
use Rattle.{disk_atomic.specs.Outgoing.ArePlaced, base_store.specs.Store.StoreState, station_scan.specs.Beneath.IsFullOnWay}
use Rattle.station_scan.specs.{Publishing.{AreGoing, AreOpen, IsTrial, IsWritten}, declared.passing.PassStop.{PassStop, TheVariants.{Placing, Reading}}}
use Rattle.station_scan.specs.declared.{publish_error.PublishError.{PublishError, TheVariants.{Packets, Reading as OfReading}}, writing.Batch.Batch}
use Rattle.disk_atomic.specs.declared.placing_error.PlacingError.TheVariants as placing
use Rattle.base_store.specs.declared.store_error.StoreError.TheVariants as store

-- the packets of a batch go to paths of the folder that the store does not own
abbrev pub IsBatchOff : StoreState → Batch → Type 0
IsBatchOff s batch = AreGoing s.is_own batch.outbound.now batch.trial.now batch.packets.now

-- the staging files were made, and can grow
abbrev pub IsOpen : Batch → DiskState → Type 0
IsOpen batch disk = AreOpen batch.outbound.now batch.packets.now disk

-- Its packets go to paths of the folder, and the trial path is in the folder too. All these paths are distinct.
pub record IsBatchPlaced (batch : Batch) : Type 0 where
  pub placed : ArePlaced batch.outbound.now batch.packets.now
  pub is_trial : IsTrial batch.outbound.now batch.packets.now batch.trial.now

-- Such a batch, with staging files that were made and can grow.
pub record CanEnd (batch : Batch) (disk : DiskState) : Type 0 where
  pub placed : IsBatchPlaced batch
  pub opened : IsOpen batch disk

-- The store may be called. It owns no path of the batch, and on its disk the staging files can grow.
pub record CanStage (s : StoreState) (batch : Batch) : Type 0 where
  pub ready : s.is_ready
  pub off : IsBatchOff s batch
  pub opened : IsOpen batch s.disk

-- The staging files were made, and have no bytes yet.
pub record IsBegun (batch : Batch) (disk : DiskState) : Type 0 where
  pub opened : IsOpen batch disk
  pub none : All (IsWritten (λ p. []) disk.seen) batch.packets.now

-- A failure of the device is reported only if its count of failures rose. On an honest disk, damage is reported only for a store that holds
-- no base, and too much only if the store was full.
pub record HasStopCause {S T : Type 0} (state : S → StoreState) (old new : StoreState) (before now : ℕ) (result : Result T PassStop) : Type 0 where
  pub later : before ≤ now
  pub placing : IsErrOf result (Placing placing.Device) → Failed before now
  pub reading : IsErrOf result (Reading store.Device) → Failed before now
  pub damaged : Honestly new.disk (IsErrOf result (Reading store.Damaged) → (base : Base) → old.keeps base → ⊥)
  pub many : IsErrOf result (Reading store.TooMany) → IsFullOnWay state old

-- Why packets were not written, with no staging file left.
abbrev pub publish_stop : PassStop → PublishError
publish_stop (Placing cause) = Packets cause
publish_stop (Reading cause) = OfReading cause
