-- Packets that a stopped scan left in staging files, and how they are finished.
use Rattle.std.specs.Prelude.{◌≡◌, ◌≢◌, ◌⊎◌, ◌<◌, ◌≤◌, ℕ, List, All, AllPairs, Contains, None, IsSome}
use Rattle.disk_io.specs.Disk.{DiskState, Files, IsIn}
use Rattle.disk_atomic.specs.{Changes.DifferAt, Naming.HasMoved, declared.finishing.Left.Left}

-- One of the two paths of one of these packets.
abbrev pub IsOfLeft : List Left → List ℕ → Type 0
IsOfLeft found m = (l : Left) × Contains found l × ((m ≡ l.staging.now) ⊎ (m ≡ l.path.now))

-- Two packets share no path.
pub record AreAway (one other : Left) : Type 0 where
  pub paths : one.path.now ≢ other.path.now
  pub stagings : one.staging.now ≢ other.staging.now
  pub path_not_staging : one.path.now ≢ other.staging.now
  pub staging_not_path : one.staging.now ≢ other.path.now

pub record IsLeftIn (folder : List ℕ) (l : Left) : Type 0 where
  pub path_in : IsIn folder l.path.now
  pub staging_in : IsIn folder l.staging.now
  pub other : l.staging.now ≢ l.path.now

pub record AreLeftIn (folder : List ℕ) (found : List Left) : Type 0 where
  pub each : All (IsLeftIn folder) found
  pub away : AllPairs AreAway found

abbrev pub IsThere : DiskState → Left → Type 0
IsThere disk l = IsSome (disk.seen l.staging.now)

abbrev pub IsFreeOf : DiskState → Left → Type 0
IsFreeOf disk l = disk.seen l.path.now ≡ None

pub record AreNamed (disk : DiskState) (l : Left) : Type 0 where
  pub path : disk.is_named l.path.now
  pub staging : disk.is_named l.staging.now

-- If the cursor was moved past it, its staging file has moved to its path. Otherwise that file is removed, and its path is unchanged.
pub record IsOver (cursor : ℕ) (old new : DiskState) (l : Left) : Type 0 where
  pub committed : l.before < cursor → HasMoved old new l.path.now l.staging.now
  pub gone : cursor ≤ l.before → new.seen l.staging.now ≡ None
  pub untouched : cursor ≤ l.before → new.seen l.path.now ≡ old.seen l.path.now

abbrev pub KeepsFile : DiskState → DiskState → Left → Type 0
KeepsFile old new l = IsSome (old.seen l.path.now) → new.seen l.path.now ≡ old.seen l.path.now

-- If the cursor was moved past it, its bytes are at one of its two paths. Otherwise its path is unchanged. Its staging path is
-- unchanged or has no file.
pub record EndsAs (cursor : ℕ) (before after : Files) (l : Left) : Type 0 where
  pub committed : l.before < cursor → (after l.path.now ≡ before l.staging.now) ⊎ (after l.staging.now ≡ before l.staging.now)
  pub untouched : cursor ≤ l.before → after l.path.now ≡ before l.path.now
  pub either : (after l.path.now ≡ before l.path.now) ⊎ (after l.path.now ≡ before l.staging.now)
  pub staged : (after l.staging.now ≡ before l.staging.now) ⊎ (after l.staging.now ≡ None)

-- This packet ends in this way, and everything else is unchanged.
pub record Finishes (cursor : ℕ) (l : Left) (before after : Files) : Type 0 where
  pub others : DifferAt (λ m. (m ≡ l.staging.now) ⊎ (m ≡ l.path.now)) before after
  pub ends : EndsAs cursor before after l

-- Each of these packets ends in this way, and everything else is unchanged.
pub record FinishesEach (cursor : ℕ) (found : List Left) (before after : Files) : Type 0 where
  pub others : DifferAt (IsOfLeft found) before after
  pub ends : All (EndsAs cursor before after) found
