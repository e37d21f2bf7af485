-- Packets with paths that belong to nothing else.
use Rattle.std.specs.Prelude.{◌⊎◌, ℕ, List, All, AllPairs, map}
use Rattle.{disk_io.specs.Disk.Files, disk_atomic.specs.declared.outgoing.Outgoing.Outgoing}
use Rattle.{disk_atomic.specs.StagingPaths.staging_path, model_steps.specs.PacketFiles.PacketFile}
use Rattle.station_scan.specs.Sending.{HaveOtherPaths, IsFreeAt, IsNamed, IsOffOwn, file_paths}

-- Each file goes to two paths that no other file uses. Neither these nor the trial path belong to the station's files.
pub record AreFit (Own : List ℕ → Type 0) (outbound own : List ℕ) (files : List PacketFile) : Type 0 where
  pub names : All (λ file. IsNamed file.name) files
  pub differ : AllPairs HaveOtherPaths (map (file_paths outbound own) files)
  pub off : All (IsOffOwn Own) (map (file_paths outbound own) files)
  pub trial : Own (staging_path outbound own) → ⊥

-- Neither path of the packet belongs to the station's files. The trial path does not either.
pub record IsOff (Own : List ℕ → Type 0) (trial : List ℕ) (p : Outgoing) : Type 0 where
  pub path : Own p.path.now → ⊥
  pub staging : Own p.staging.now → ⊥
  pub off_trial : Own trial → ⊥

-- A file has the path of a packet, or the paths do not fit.
abbrev pub AreTaken : (List ℕ → Type 0) → List ℕ → List ℕ → List PacketFile → Files → Type 0
AreTaken Own outbound own files seen = (All (IsFreeAt outbound seen) files → ⊥) ⊎ (AreFit Own outbound own files → ⊥)
