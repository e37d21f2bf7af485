-- The files that a disk shows, and those that a crash may leave.
use Rattle.std.specs.Prelude.{◌≡◌, ◌≢◌, ◌≤◌, ◌⊎◌, ℕ, ◌-◌, List, [], ◌++◌, length, get_or, Option, Some, None, All}

-- The files by their paths; `None` if a path has no file.
abbrev pub Files : Type 0
Files = List ℕ → Option (List ℕ)

-- The bytes of a file, or no bytes if it does not exist.
abbrev pub bytes_in : Option (List ℕ) → List ℕ
bytes_in None = []
bytes_in (Some bytes) = bytes

-- A path of a folder is empty or ends with a slash.
abbrev pub IsFolder : List ℕ → Type 0
IsFolder path = (length path ≡ 0) ⊎ (get_or path (length path - 1) 0 ≡ 47)

-- `path` begins with `folder` and has no slash after it. If `folder` is a folder, `path` is a file directly in it.
pub record IsIn (folder path : List ℕ) : Type 0 where
  pub name : List ℕ
  pub parts : path ≡ folder ++ name
  pub plain : All (λ b. b ≢ 47) name

-- The files that a disk shows, those that a crash may leave, and the permanent ones.
pub record DiskState : Type 1 where
  -- The files that reads return.
  pub seen : Files
  -- The files that a crash now may leave.
  pub may_leave : Files → Type 0
  -- A clock that never goes back.
  pub moment : ℕ
  -- The files that a crash at that time or later might have left.
  pub left_since : ℕ → Files → Type 0
  -- The disk has a permanent entry that agrees with the current state of the path: its file, or no file.
  pub is_named : List ℕ → Type 0
  -- All bytes of the file at this path are on the disk.
  pub is_flushed : List ℕ → Type 0
  -- No other path leads to this file.
  pub is_alone : List ℕ → Type 0
  -- A crash leaves the shown file if it is named and flushed.
  pub on_disk : (path : List ℕ) → is_named path → is_flushed path → (c : Files) → may_leave c → c path ≡ seen path
  -- The files that a crash now may leave also count for each earlier time.
  pub counts_now : (t : ℕ) (c : Files) → t ≤ moment → may_leave c → left_since t c
  -- From now on, only these files count.
  pub only_now : (c : Files) → left_since moment c → may_leave c
  -- Every answer until now showed the files as `seen` has them.
  pub is_honest : Type 0

-- The claim holds if the disk was honest until this state.
abbrev pub Honestly : DiskState → Type 0 → Type 0
Honestly disk P = disk.is_honest → P
