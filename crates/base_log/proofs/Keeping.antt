-- Calls that keep files: their paths, their bytes on the disk, and the log.
use Rattle.std.proofs.Common.{◌≡◌, ◌≢◌, List, ℕ, arith}
use Rattle.std.specs.Prelude.{IsSome}
use Rattle.disk_io.specs.{Disk.DiskState, Runs.ChangesNothing, Synced.IsOnDisk, Synced.KeepsOthers}
use Rattle.base_log.specs.{Names.IsFileOf, Names.log_of, AtRest.IsLogAt, Moments.KeepsOutside, Opening.AreNamed, Opening.KeepsButOne, declared.log.End.End}

pub but_one_quiet : (d e : DiskState) (file : List ℕ) → ChangesNothing d e → KeepsButOne d e file
but_one_quiet d e file quiet = grind arith

pub but_one_twice : (d e f : DiskState) (file : List ℕ) → KeepsButOne d e file → KeepsButOne e f file → KeepsButOne d f file
but_one_twice d e f file one two = grind arith

but_one_others : (d e : DiskState) (file : List ℕ) → KeepsOthers d e file → KeepsButOne d e file
but_one_others d e file kept = record { seen = kept.seen; named = λ m ne. kept.named m; flushed = kept.flushed; alone = λ m ne. kept.alone m; honest = kept.honest }

pub outside_but_one : (path : List ℕ) (d e : DiskState) (file : List ℕ) → IsFileOf path file → KeepsButOne d e file → KeepsOutside path d e
outside_but_one path d e file own kept = grind arith

pub outside_kept : (path file : List ℕ) (d e : DiskState) → IsFileOf path file → KeepsOthers d e file → KeepsOutside path d e
outside_kept path file d e own kept = outside_but_one path d e file own (but_one_others d e file kept)

pub outside_quiet : (path : List ℕ) (d e : DiskState) → ChangesNothing d e → KeepsOutside path d e
outside_quiet path d e quiet = grind arith

pub outside_twice : (path : List ℕ) (d e f : DiskState) → KeepsOutside path d e → KeepsOutside path e f → KeepsOutside path d f
outside_twice path d e f one two = grind arith

pub settled_on : (d e : DiskState) (file : List ℕ) → ChangesNothing d e → IsSome (d.seen file) → d.is_named file → d.is_alone file → e.is_flushed file → IsOnDisk e file
settled_on d e file quiet there named alone flushed = grind arith

pub on_disk_quiet : (d e : DiskState) (file : List ℕ) → ChangesNothing d e → IsOnDisk d file → IsOnDisk e file
on_disk_quiet d e file quiet on = settled_on d e file quiet on.there on.named on.alone (quiet.flushed file (λ h. h) on.flushed)

pub on_disk_but_one : (d e : DiskState) (file other : List ℕ) → KeepsButOne d e other → file ≢ other → IsOnDisk d file → IsOnDisk e file
on_disk_but_one d e file other kept ne on = grind arith

pub on_disk_kept : (d e : DiskState) (file other : List ℕ) → KeepsOthers d e other → file ≢ other → IsOnDisk d file → IsOnDisk e file
on_disk_kept d e file other kept ne on = on_disk_but_one d e file other (but_one_others d e other kept) ne on

pub log_moved : (d e : DiskState) (path : List ℕ) (end : End) → IsLogAt d path end → e.seen (log_of path) ≡ d.seen (log_of path) → IsOnDisk e (log_of path) → AreNamed path e → IsLogAt e path end
log_moved d e path end was same on named = grind arith
