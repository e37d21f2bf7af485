-- A disk in memory: the files after its changes, the newest first.
use Rattle.std.specs.Prelude.{◌≡◌, ◌≤◌, ◌⊎◌, ℕ, cond, List, [], ◌∷◌, length, reverse, bytes_eq, Option, Some, None, Vec}
use Rattle.std.proofs.Common.{inl, inr}
use Rattle.std.{proofs.Math.Nat.lt_irrefl, specs.{Borrow.Bor, declared.alloc.Global.Global}}
use Rattle.disk_io.specs.{Disk.{DiskState, Files}, Runs.Elapses}
use Rattle.disk_memory.specs.declared.memory_disk.{Change.Change, MemoryDisk.MemoryDisk}

-- The bytes of a file, as a list.
abbrev pub file_of : Option (Vec ℕ Global) → Option (List ℕ)
file_of None = None
file_of (Some bytes) = Some bytes.items

abbrev pub file_behind : Option (Bor (List ℕ)) → Option (List ℕ)
file_behind None = None
file_behind (Some bytes) = Some bytes.now

-- `to` has this file, or none, and any other path `from` has none.
abbrev pub put : List ℕ → List ℕ → Option (List ℕ) → Files → Files
put from to file before m = cond (bytes_eq m to) file (cond (bytes_eq m from) None (before m))

abbrev pub files_after : List Change → Files
files_after [] m = None
files_after (change ∷ changes) m = put change.from.items change.to.items (file_of change.file) (files_after changes) m

abbrev pub AreFiles : Files → Files → Type 0
AreFiles files c = (m : List ℕ) → c m ≡ files m

-- A crash left these files after t changes, or later.
abbrev pub LeftSince : List Change → ℕ → Files → Type 0
LeftSince [] t c = AreFiles (files_after []) c
LeftSince (change ∷ changes) t c = AreFiles (files_after (change ∷ changes)) c ⊎ ((t ≤ length changes) × LeftSince changes t c)

pub now_counts : (changes : List Change) (t : ℕ) (c : Files) → AreFiles (files_after changes) c → LeftSince changes t c
now_counts [] t c left = left
now_counts (change ∷ changes) t c left = inl left

pub now_alone : (changes : List Change) (c : Files) → LeftSince changes (length changes) c → AreFiles (files_after changes) c
now_alone [] c left = left
now_alone (change ∷ changes) c (inl left) = left
now_alone (change ∷ changes) c (inr was) = absurd (lt_irrefl (length changes) was.0)

-- The disk after these changes.
abbrev pub disk_after : List Change → DiskState
disk_after changes = record {
  seen = files_after changes;
  may_leave = AreFiles (files_after changes);
  moment = length changes;
  left_since = LeftSince changes;
  is_named = λ m. Unit {0};
  is_flushed = λ m. Unit {0};
  is_alone = λ m. Unit {0};
  on_disk = λ m named flushed c left. left m;
  counts_now = λ t c le left. now_counts changes t c left;
  only_now = now_alone changes;
  is_honest = Unit {0};
}

-- A disk has its newest change last.
abbrev pub changes_of : MemoryDisk → List Change
changes_of disk = reverse disk.changes.items

-- One change happened, and a crash leaves its result.
pub record Puts (from to : List ℕ) (file : Option (List ℕ)) (old new : DiskState) : Type 0 where
  pub seen : (m : List ℕ) → new.seen m ≡ put from to file old.seen m
  pub whole : old.may_leave old.seen
  pub crash : (c : Files) → new.may_leave c → (m : List ℕ) → c m ≡ put from to file old.seen m
  pub named : (m : List ℕ) → new.is_named m
  pub flushed : (m : List ℕ) → new.is_flushed m
  pub alone : (m : List ℕ) → new.is_alone m
  pub time : Elapses old new
