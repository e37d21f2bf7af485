-- Packets that get their paths.
use Rattle.std.specs.Prelude.{◌≡◌, ◌≢◌, ◌⊎◌, ℕ, List, All, Some, None, IsSome}
use Rattle.disk_io.specs.{Disk.DiskState, Disk.Files, Disk.Honestly, Disk.IsIn, Runs.LeavesOnly, Runs.OneStepOn}
use Rattle.disk_atomic.specs.{Changes.ChangesOnly, Changes.DifferAt, Changes.HasOnDisk, Outgoing.IsOfOne, declared.outgoing.Outgoing.Outgoing}

-- The staging file is at one of the two paths. The path is unchanged or has that file, and the staging path is unchanged or has none.
-- Everything else is unchanged.
pub record Names (path staging : List ℕ) (before after : Files) : Type 0 where
  pub others : DifferAt (λ m. (m ≡ staging) ⊎ (m ≡ path)) before after
  pub stands : (after path ≡ before staging) ⊎ (after staging ≡ before staging)
  pub either : (after path ≡ before path) ⊎ (after path ≡ before staging)
  pub staged : (after staging ≡ before staging) ⊎ (after staging ≡ None)

-- The path leads to the same file, or still to no file. It is still on the disk if it was.
pub record StaysThere (old new : DiskState) (path : List ℕ) : Type 0 where
  pub seen : new.seen path ≡ old.seen path
  pub named : old.is_named path → new.is_named path
  pub flushed : old.is_flushed path → new.is_flushed path

pub record AreBothIn (folder staging path : List ℕ) : Type 0 where
  pub path_in : IsIn folder path
  pub staging_in : IsIn folder staging

-- The file at the staging path is on the disk. So is the entry of the other path.
pub record CanLink (disk : DiskState) (staging path : List ℕ) : Type 0 where
  pub other : staging ≢ path
  pub there : Honestly disk (IsSome (disk.seen staging))
  pub durable : disk.is_flushed staging
  pub staging_named : disk.is_named staging
  pub path_named : disk.is_named path

-- A call that tries to give a staging file its path.
pub record Gives (old new : DiskState) (path staging : List ℕ) : Type 0 where
  pub any_moment : LeavesOnly old new (OneStepOn (Names path staging) old)
  pub changes : ChangesOnly (λ m. (m ≡ staging) ⊎ (m ≡ path)) old new
  pub stays : StaysThere old new staging
  pub over_none : Honestly new (IsSome (old.seen path) → new.seen path ≡ old.seen path)

-- The staging file now has only its path, and it is on the disk.
pub record HasMoved (old new : DiskState) (path staging : List ℕ) : Type 0 where
  pub seen : new.seen path ≡ old.seen staging
  pub gone : new.seen staging ≡ None
  pub named : new.is_named path
  pub flushed : new.is_flushed path

-- Another file has the path.
pub record IsTaken (old : DiskState) (path staging : List ℕ) : Type 0 where
  pub there : IsSome (old.seen path)
  pub other : old.seen path ≢ old.seen staging

-- The packet is whole at its path, and its staging path has it too or no file. Or it is whole at its staging path, and its path is
-- unchanged.
abbrev pub IsWholeAtEither : (Outgoing → List ℕ) → Files → Files → Outgoing → Type 0
IsWholeAtEither content before after p =
    ((after p.path.now ≡ Some (content p)) × ((after p.staging.now ≡ Some (content p)) ⊎ (after p.staging.now ≡ None)))
    ⊎ ((after p.staging.now ≡ Some (content p)) × (after p.path.now ≡ before p.path.now))

-- Each packet is whole so, and everything else is unchanged.
pub record NamesEach (content : Outgoing → List ℕ) (packets : List Outgoing) (before after : Files) : Type 0 where
  pub others : DifferAt (IsOfOne packets) before after
  pub whole : All (IsWholeAtEither content before after) packets

abbrev pub KeepsPath : DiskState → DiskState → Outgoing → Type 0
KeepsPath old new p = IsSome (old.seen p.path.now) → new.seen p.path.now ≡ old.seen p.path.now

-- The packet has only its path, and it is on the disk.
pub record HasItsPath (content : Outgoing → List ℕ) (disk : DiskState) (p : Outgoing) : Type 0 where
  pub file : HasOnDisk disk p.path.now (content p)
  pub gone : disk.seen p.staging.now ≡ None
