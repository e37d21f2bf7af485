-- The staging files of a station's stopped scans can be finished.
use Rattle.std.specs.Prelude.{ℕ}
use Rattle.law_stations.specs.{Disks.{Disks, HasCursor}, Stopping.{EndsSome, HasNoneStaged}}

-- This many steps of a scan finish all of them.
pub record CanEnd (i : ℕ) (d : Disks) : Type 0 where
  pub steps : ℕ
  pub ended : Disks
  pub ends : EndsSome steps i d ended
  pub none : HasNoneStaged i ended.staging

-- They can be finished on any disks, at each station.
abbrev pub LeftCanEnd : Type 0
LeftCanEnd = (i : ℕ) (d : Disks) (cursor : ℕ) → HasCursor d.net i cursor → CanEnd i d
