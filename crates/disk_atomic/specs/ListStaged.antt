-- The list of staging files that earlier scans left.
use Rattle.std.specs.Prelude.{◌≡◌, ◌≢◌, ◌<◌, ◌^◌, ℕ, List, ◌++◌, All, Contains, codes, decimal, IsSome}
use Rattle.disk_io.specs.Disk.{Files}
use Rattle.disk_atomic.specs.{StagingPaths.staging_path, declared.listing.StagedPacket.StagedPacket}

-- A byte of a packet's name: no slash, and no tilde, which only staging paths contain.
pub record IsNameByte (b : ℕ) : Type 0 where
  pub no_slash : b ≢ 47
  pub no_tilde : b ≢ 126

-- The name of a packet of a scan. `before` is the number of messages scanned earlier, which has four bytes.
pub record IsNumbered (before : ℕ) (name : List ℕ) : Type 0 where
  pub front : List ℕ
  pub parts : name ≡ front ++ (codes "." ++ (decimal before ++ codes ".pkt"))
  pub within : before < 2 ^ 32
  pub plain : All IsNameByte name

-- This name in the folder has a staging file of the system with this own name.
abbrev pub HasStagingFile : List ℕ → List ℕ → Files → List ℕ → Type 0
HasStagingFile folder own files name = IsSome (files (staging_path (folder ++ name) own))

-- The list is correct: each entry is the name of a packet, with its number. It has each such name that has a staging file.
pub record AreListed (folder own : List ℕ) (files : Files) (found : List StagedPacket) : Type 0 where
  pub each : All (λ l. IsNumbered l.before l.name) found
  pub all : (name : List ℕ) (before : ℕ) → IsNumbered before name → HasStagingFile folder own files name → (l : StagedPacket) × Contains found l × (l.name ≡ name)
