-- The packet files of `toss` on a disk.
use Rattle.std.specs.Prelude.{ℕ, Bool, true, false, List, length, map, Option, Some, None, if◌then◌else◌, nat_lt}
use Rattle.disk_io.specs.Disk.{Files}
use Rattle.cmd_store.specs.Coming.{Coming, Fails, Holds, Unknown}

-- The most bytes of a packet file that is held in memory.
abbrev pub most_held : ℕ
most_held = 1048576

-- The contents of a packet file at a path. A file too large for memory has a reader with unknown contents.
abbrev pub coming_of : List ℕ → Option (List ℕ) → Coming
coming_of path None = Fails path
coming_of path (Some bytes) = if nat_lt most_held (length bytes) then Unknown else Holds bytes

-- The contents of a file by its name, which may be a name that cannot be opened.
abbrev pub coming_at : Files → Bool → List ℕ → Coming
coming_at seen true path = coming_of path (seen path)
coming_at seen false path = Fails path

-- The contents of the files with these names.
abbrev pub coming_in : {N : Type 0} → (N → Bool) → (N → List ℕ) → Files → List N → List Coming
coming_in usable path seen names = map (λ name. coming_at seen (usable name) (path name)) names
