-- The packets of a scan and the commit of a store.
use Rattle.std.specs.Prelude.{◌≡◌, ◌⊎◌, ℕ, List, length, All, None}
use Rattle.{base_file.specs.Base.Base, disk_io.specs.Disk.{DiskState, Files, Honestly}}
use Rattle.{disk_io.specs.Runs.OneStepOn, disk_atomic.specs.{Changes.DifferAt, Trying.WasTried, StagingPaths.staging_path}}
use Rattle.{model_steps.specs.PacketFiles.PacketFile, base_store.specs.Store.{Commits, StoreState}}
use Rattle.station_scan.specs.{Sending.{HasBytes, IsAtItsPath, IsStagingOfPacket, IsFreeAt, IsStagingGone, IsStagingOn, IsOfPacket, IsWhole, IsWholeAlone}, Left.IsOfNameOff}
use Rattle.station_scan.specs.{Publishing.IsOnDisk, Stops.TellsLeft, declared.scan_error.ScanError.ScanError}

-- one of these paths, or one of the two paths of a packet
abbrev pub IsOfThese : (List ℕ → Type 0) → List ℕ → List ℕ → List PacketFile → List ℕ → Type 0
IsOfThese Own outbound own files m = Own m ⊎ IsOfPacket outbound own files m

-- before the commit: staging files are written, and the files hold the committed base
pub record WritesStaging (old : StoreState) (outbound own : List ℕ) (files : List PacketFile) (first : Base) (c : Files) : Type 0 where
  pub writes : OneStepOn (DifferAt (IsStagingOfPacket outbound own files)) old.disk c
  pub represented : old.represented first c

-- From the commit on. Either the files hold the base that was committed before, and no file has the path of a packet. Or they hold the
-- store's new base, and each packet, which is bytes, is whole at one of its two paths, with no other file there. All else on the disk is as
-- it was seen.
pub record CommitsThese (old : StoreState) (outbound own : List ℕ) (files : List PacketFile) (first next : Base) (c : Files) : Type 0 where
  pub others : (m : List ℕ) → (IsOfThese old.is_own outbound own files m → ⊥) → IsOnDisk old.disk m → c m ≡ old.disk.seen m
  pub either : (old.represented first c × All (IsFreeAt outbound c) files) ⊎ (old.represented next c × All (IsWholeAlone outbound own c) files × All HasBytes files)

-- What a crash at any time during the steps may leave.
abbrev pub SendsThese : StoreState → List ℕ → List ℕ → List PacketFile → Base → Base → Files → Type 0
SendsThese old outbound own files first next c = WritesStaging old outbound own files first c ⊎ CommitsThese old outbound own files first next c

-- Each packet is on the disk at its path alone, and what the store held is committed.
pub record AreSentOn (outbound own : List ℕ) (files : Base → List PacketFile) (old new : StoreState) : Type 0 where
  pub committed : Commits old new
  pub packets : Honestly new.disk ((base : Base) → old.keeps base → All (IsAtItsPath outbound new.disk) (files base))
  pub gone : Honestly new.disk ((base : Base) → old.keeps base → All (IsStagingGone outbound own new.disk.seen) (files base))
  pub bytes : Honestly new.disk ((base : Base) → old.keeps base → All HasBytes (files base))
  pub settled : Honestly new.disk ((base : Base) → old.keeps base → All (IsStagingOn outbound own new.disk) (files base))

-- What an error says of these packets, from the files seen before and after. Files at other paths may be left by earlier scans.
abbrev pub IsLeftAs : List ℕ → List ℕ → (Files → Type 0) → (Files → Type 0) → (List ℕ → Type 0) → List PacketFile → Files → Files → ScanError → Type 0
IsLeftAs outbound own Stays Comes Other files before after why =
    TellsLeft (Stays after) ((m : List ℕ) → IsStagingOfPacket outbound own files m → (Other m → ⊥) → (after m ≡ None) ⊎ (after m ≡ before m)) (Comes after) (All (IsWhole outbound own after) files) why

-- If there are packets, the first step in the folder was to try whether a file gets a second path.
abbrev pub WasTriedFor : {D F : Type 0} → (D → DiskState) → (List ℕ → Type 0) → List ℕ → List ℕ → List F → DiskState → Type 0
WasTriedFor state Own outbound own files old = (length files ≡ 0) ⊎ WasTried state (IsOfNameOff Own outbound own) (staging_path outbound own) old
