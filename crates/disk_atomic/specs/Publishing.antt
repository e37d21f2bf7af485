-- Packets and a commit.
use Rattle.std.specs.Prelude.{◌≤◌, ℕ, List, Result, IsErrOf}
use Rattle.disk_io.specs.{Device.Failed, declared.disk_error.DiskError.DiskError}
use Rattle.disk_io.specs.declared.disk_error.DiskError.TheVariants as disk_error
use Rattle.disk_atomic.specs.declared.{outgoing.Outgoing.Outgoing, placing_error.PlacingError.PlacingError}
use Rattle.disk_atomic.specs.declared.placing_error.PlacingError.TheVariants as error

-- Neither path of the packet is one of these.
pub record IsApartFrom (paths : List ℕ → Type 0) (p : Outgoing) : Type 0 where
  pub path : paths p.path.now → ⊥
  pub staging : paths p.staging.now → ⊥

abbrev pub placing_cause : DiskError → PlacingError
placing_cause disk_error.Memory = error.Memory
placing_cause disk_error.Device = error.Device

-- A failure of the device is reported only if its count of failures rose.
pub record HasPlacingCause {T : Type 0} (before now : ℕ) (result : Result T PlacingError) : Type 0 where
  pub later : before ≤ now
  pub failed : IsErrOf result error.Device → Failed before now
