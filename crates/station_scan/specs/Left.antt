-- Leftover packets: the staging files that earlier scans left. A scan finishes them: it names or removes each.
use Rattle.std.specs.Prelude.{◌≡◌, ◌≢◌, ◌⊎◌, ◌<◌, ◌≤◌, ℕ, List, [], ◌∷◌, ◌++◌, length, get_or, All, AllPairs, Contains, IsSome, None, OnOk, Result}
use Rattle.disk_io.specs.{Disk.DiskState, Disk.Files, Runs.LeavesOnly, Runs.OneStepOn}
use Rattle.disk_atomic.specs.{Changes.ChangesOnly, Finishing.FinishesEach, Finishing.IsOfLeft, Finishing.IsOver, declared.finishing.Left.Left, declared.placing_error.PlacingError.PlacingError}
use Rattle.disk_atomic.specs.{StagingPaths.staging_path, declared.listing.StagedPacket.StagedPacket, ListStaged.IsNumbered, ListStaged.HasStagingFile, ListStaged.IsNameByte}
use Rattle.station_scan.specs.{declared.finding.LeftPaths.LeftPaths, Sending.IsOffOwn, Sending.two_paths}

-- It has the two paths of the listed packet, and its number. Neither path is the station's own.
pub record IsFoundAs (Own : List ℕ → Type 0) (folder own : List ℕ) (packet : StagedPacket) (l : LeftPaths) : Type 0 where
  pub two : l.two ≡ two_paths folder own packet.name
  pub before : l.before ≡ packet.before
  pub plain : All IsNameByte packet.name
  pub off : IsOffOwn Own l.two

-- Some listed packet is found as this.
abbrev pub IsFound : (List ℕ → Type 0) → List ℕ → List ℕ → List StagedPacket → LeftPaths → Type 0
IsFound Own folder own named l = (packet : StagedPacket) × Contains named packet × IsFoundAs Own folder own packet l

-- Its staging file exists.
abbrev pub IsStagingThere : Files → LeftPaths → Type 0
IsStagingThere files l = IsSome (files l.two.staging)

-- Nothing has its path.
abbrev pub IsFreeFound : Files → LeftPaths → Type 0
IsFreeFound files l = files l.two.path ≡ None

-- Their paths differ.
abbrev pub HaveOtherLeft : LeftPaths → LeftPaths → Type 0
HaveOtherLeft one other = one.two.path ≢ other.two.path

-- One of this path is among them.
abbrev pub IsAmong : List ℕ → List LeftPaths → Type 0
IsAmong path found = (l : LeftPaths) × Contains found l × (l.two.path ≡ path)

-- It is a packet's name. Neither of its paths is the station's own, and its staging file exists.
pub record IsToFind (Own : List ℕ → Type 0) (folder own : List ℕ) (files : Files) (name : List ℕ) : Type 0 where
  pub plain : All IsNameByte name
  pub off : IsOffOwn Own (two_paths folder own name)
  pub there : HasStagingFile folder own files name

-- No file has the path of one of these.
abbrev pub AreFreeLeft : (List ℕ → Type 0) → List ℕ → List ℕ → Files → Type 0
AreFreeLeft Own folder own files = (name : List ℕ) → IsToFind Own folder own files name → files (folder ++ name) ≡ None

-- If the listed packet has to be found, it is among those found.
abbrev pub IsFoundWhere : (List ℕ → Type 0) → List ℕ → List ℕ → Files → List LeftPaths → StagedPacket → Type 0
IsFoundWhere Own folder own files found packet = IsToFind Own folder own files packet.name → IsAmong (folder ++ packet.name) found

-- The leftover packets of a list: each is found, once.
pub record AreFound (Own : List ℕ → Type 0) (folder own : List ℕ) (named : List StagedPacket) (found : List LeftPaths) : Type 0 where
  pub each : All (IsFound Own folder own named) found
  pub differ : AllPairs HaveOtherLeft found

-- Either nothing is added, or this listed packet, if no earlier one has its path.
abbrev pub Adds : (List ℕ → Type 0) → List ℕ → List ℕ → StagedPacket → List LeftPaths → List LeftPaths → Type 0
Adds Own folder own packet before after =
    (after ≡ before) ⊎ ((l : LeftPaths) × (after ≡ before ++ l ∷ []) × IsFoundAs Own folder own packet l × All (HaveOtherLeft l) before)

-- The same packet, with its paths borrowed.
pub record IsSameLeft (two : LeftPaths) (l : Left) : Type 0 where
  pub path : l.path.now ≡ two.two.path
  pub staging : l.staging.now ≡ two.two.staging
  pub before : l.before ≡ two.before

-- These are the same packets, one by one.
pub record AreSameLeft (paths : List LeftPaths) (found : List Left) : Type 0 where
  pub as_many : length found ≡ length paths
  pub each : (k : ℕ) (w : LeftPaths) (l : Left) → k < length paths → IsSameLeft (get_or paths k w) (get_or found k l)

-- The staging path of one of these; or the path of one, if its scan was committed or its path leads to no file.
abbrev pub IsEndedAt : ℕ → List Left → Files → List ℕ → Type 0
IsEndedAt cursor found c m = (l : Left) × Contains found l × ((m ≡ l.staging.now) ⊎ ((m ≡ l.path.now) × ((l.before < cursor) ⊎ (c m ≡ None))))

-- These packets are finished, and that is on the disk. A crash at any time leaves each packet of a committed scan at one of its two paths
-- at least. It leaves no other packet at its path.
pub record EndsThese (cursor : ℕ) (paths : List LeftPaths) (old new : DiskState) (result : Result (Unit {0}) PlacingError) : Type 0 where
  pub found : List Left
  pub lent : AreSameLeft paths found
  pub over : OnOk result (All (IsOver cursor old new) found)
  pub named : OnOk result ((m : List ℕ) → IsOfLeft found m → new.is_named m)
  pub flushed : OnOk result ((m : List ℕ) → IsEndedAt cursor found new.seen m → new.is_flushed m)
  pub any_moment : LeavesOnly old new (OneStepOn (FinishesEach cursor found) old)
  pub changes : ChangesOnly (IsOfLeft found) old new

-- one of the two paths of one of these
abbrev pub IsOfPaths : List LeftPaths → List ℕ → Type 0
IsOfPaths paths m = (w : LeftPaths) × Contains paths w × ((m ≡ w.two.staging) ⊎ (m ≡ w.two.path))

-- It is a packet of the own system with this name. Neither of its paths is the station's own.
pub record IsLeftAs (Own : List ℕ → Type 0) (folder own name : List ℕ) (l : Left) : Type 0 where
  pub path : l.path.now ≡ folder ++ name
  pub staging : l.staging.now ≡ staging_path (folder ++ name) own
  pub plain : All IsNameByte name
  pub off : IsOffOwn Own (two_paths folder own name)

-- It has some name, and its number is the one in that name if the list was true.
abbrev pub IsLeftOf : Type 0 → (List ℕ → Type 0) → List ℕ → List ℕ → Left → Type 0
IsLeftOf is_true Own folder own l = (name : List ℕ) × IsLeftAs Own folder own name l × (is_true → IsNumbered l.before name)

-- If the list was true, each name of a packet with a staging file is among them.
abbrev pub AreAllLeft : Type 0 → (List ℕ → Type 0) → List ℕ → List ℕ → Files → List Left → Type 0
AreAllLeft is_true Own folder own files found =
    is_true → (name : List ℕ) (before : ℕ) → IsNumbered before name → IsToFind Own folder own files name → (l : Left) × Contains found l × (l.path.now ≡ folder ++ name)

-- If the cursor was moved past it, its staging file moved to its path. Otherwise that file is removed, and its path is unchanged.
pub record IsEnded (cursor : ℕ) (before after : Files) (l : Left) : Type 0 where
  pub committed : l.before < cursor → after l.path.now ≡ before l.staging.now
  pub untouched : cursor ≤ l.before → after l.path.now ≡ before l.path.now
  pub gone : after l.staging.now ≡ None

-- The listed leftover packets are finished.
pub record EndsLeft (is_true : Type 0) (Own : List ℕ → Type 0) (folder own : List ℕ) (cursor : ℕ) (old new : DiskState) (result : Result (Unit {0}) PlacingError) : Type 0 where
  pub found : List Left
  pub each : All (IsLeftOf is_true Own folder own) found
  pub all : OnOk result (AreAllLeft is_true Own folder own old.seen found)
  pub over : OnOk result (All (IsOver cursor old new) found)
  pub named : OnOk result ((m : List ℕ) → IsOfLeft found m → new.is_named m)
  pub flushed : OnOk result ((m : List ℕ) → IsEndedAt cursor found new.seen m → new.is_flushed m)
  pub any_moment : LeavesOnly old new (OneStepOn (FinishesEach cursor found) old)
  pub changes : ChangesOnly (IsOfLeft found) old new

-- the path of a packet's name in the folder, or its staging path
abbrev pub IsOfName : List ℕ → List ℕ → List ℕ → Type 0
IsOfName folder own m = (name : List ℕ) × All IsNameByte name × ((m ≡ staging_path (folder ++ name) own) ⊎ (m ≡ folder ++ name))

-- such a path that is not one of the station's own files
abbrev pub IsOfNameOff : (List ℕ → Type 0) → List ℕ → List ℕ → List ℕ → Type 0
IsOfNameOff Own folder own m = IsOfName folder own m × (Own m → ⊥)
