-- The work of a scan on the disk of its store.
use Rattle.std.specs.Prelude.{◌≡◌, ◌<◌, ℕ, List, ◌++◌, length, Bool, true, false, All, Result, IfErr, IfOk, IsErrOf, OnOk}
use Rattle.disk_io.specs.{Disk.{DiskState, Honestly}, Runs.{HasCause, LeavesOnly, OneStepOn}, declared.disk_error.DiskError.DiskError}
use Rattle.disk_atomic.specs.{Outgoing.{ArePlaced, IsFree, IsStaged, staged_in}, ListStaged.AreListed, Naming.{HasItsPath, NamesEach}}
use Rattle.disk_atomic.specs.{Publishing.HasPlacingCause, declared.{listing.StagedPacket.StagedPacket, outgoing.Outgoing.Outgoing}}
use Rattle.{disk_atomic.specs.declared.placing_error.PlacingError.{PlacingError, TheVariants.Taken}, echo_steps.specs.Exports.OutgoingMessage as Sent}
use Rattle.station_scan.specs.{Left.{AreFreeLeft, EndsLeft}, Passing.{AreGrowing, IsAppending}}
use Rattle.station_scan.specs.Publishing.{AreGone, AreStaged, HasStageCause, IsStagingOnDisk, IsTriedWith, IsWritten, NoneStays, ended_in}
use Rattle.station_scan.specs.declared.{publish_error.PublishError.PublishError, sending.Sending.Sending, writing.Batch.Batch}

-- The listed leftover packets were finished, by the cursor. The numbers are how often the disk failed before and after, here and below.
pub record HasFinished (Own : List ℕ → Type 0) (folder own : List ℕ) (listed : List StagedPacket) (cursor : ℕ) (old new : DiskState) (before now : ℕ) (result : Result (Unit {0}) PlacingError) : Type 0 where
  pub ends : Honestly new (EndsLeft (AreListed folder own old.seen listed) Own folder own cursor old new result)
  pub taken : Honestly new (IsErrOf result Taken → AreFreeLeft Own folder own old.seen → ⊥)
  pub cause : HasPlacingCause before now result

-- Staging files can take the copies of a group. There is a packet with copies of it.
pub record CanAppend (to : Sending) (copied begun : List Outgoing) (more : List Sent) (disk : DiskState) : Type 0 where
  pub some : 0 < length copied
  pub copied_placed : ArePlaced to.outbound.now copied
  pub begun_placed : ArePlaced to.outbound.now begun
  pub appending : (sent : List Sent) × IsAppending to sent more disk copied begun

-- The copies were written.
pub record HasAppended (to : Sending) (copied begun : List Outgoing) (more : List Sent) (old new : DiskState) (before now : ℕ) (result : Result (Unit {0}) PlacingError) : Type 0 where
  pub grows : (sent : List Sent) → IsAppending to sent more old copied begun → OnOk result (AreGrowing to (sent ++ more) new)
  pub taken : Honestly new (IsErrOf result Taken → All (IsFree old) begun → ⊥)
  pub cause : HasPlacingCause before now result

-- The packets of a batch were ended in their staging files, and it was tried whether files there can get a second path.
pub record HasEnded {D : Type 0} (state : D → DiskState) (batch : Batch) (old new : DiskState) (before now : ℕ) (result : Result Bool PublishError) : Type 0 where
  pub staged : IfOk result (λ free. free ≡ true → AreStaged batch.packets.now new)
  pub ended : Honestly new (OnOk result (All (IsWritten (ended_in old.seen) new.seen) batch.packets.now))
  pub tried : IfOk result (λ free. free ≡ true → IsTriedWith state batch.packets.now batch.trial.now old)
  pub taken : Honestly new (IfOk result (λ free. free ≡ false → ⊥))
  pub gone : Honestly new (IfErr result (NoneStays batch.packets.now batch.trial.now new))
  pub cause : HasStageCause before now result

-- The staging files of a batch were removed.
pub record HasDropped (batch : Batch) (new : DiskState) (before now : ℕ) (result : Result (Unit {0}) DiskError) : Type 0 where
  pub gone : Honestly new (OnOk result (AreGone batch.packets.now batch.trial.now new))
  pub cause : HasCause before now result

-- The packets of the folder are in their staging files, on the disk.
pub record CanName (outbound : List ℕ) (packets : List Outgoing) (disk : DiskState) : Type 0 where
  pub placed : ArePlaced outbound packets
  pub staged : All (IsStaged (staged_in disk.seen) disk) packets

-- The packets got their paths, or a path is in use.
pub record HasNamed (packets : List Outgoing) (old new : DiskState) (before now : ℕ) (result : Result Bool DiskError) : Type 0 where
  pub named : Honestly new (IfOk result (λ all. all ≡ true → All (HasItsPath (staged_in old.seen) new) packets))
  pub settled : Honestly new (IfOk result (λ all. all ≡ true → All (IsStagingOnDisk new) packets))
  pub taken : Honestly new (IfOk result (λ all. all ≡ false → All (IsFree old) packets → ⊥))
  pub any_moment : Honestly new (LeavesOnly old new (OneStepOn (NamesEach (staged_in old.seen) packets) old))
  pub cause : HasCause before now result
