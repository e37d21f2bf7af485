-- A folder with readable files.
use Rattle.std.proofs.{Common.{◌≡◌, ℕ, List, length, ap, arith, length-append}, lemmas.List.length-take-le}
use Rattle.disk_io.specs.{Disk.DiskState, Disk.bytes_in, Runs.ChangesNothing}
use Rattle.base_log.specs.{AtRest.IsStaged, Names.keys_of, Names.messages_of, Standing.BaseBytes, Standing.base_at, declared.log.CommitRecord.CommitRecord, declared.log.End.End}
use Rattle.base_log.proofs.Quiet.{base_quiet}
use Rattle.base_folder_store.specs.{Opened.{IsLegible, IsOpen, and_waiting, held_by, path_of}, Added.next_place, declared.folder.Folder.Folder}

pub legible_open : (d : DiskState) (f : Folder) → IsOpen d f → IsLegible d f
legible_open d f opened = grind arith

pub legible_same : (d e : DiskState) (f : Folder) → e.seen (messages_of (path_of f) f.recorded.number) ≡ d.seen (messages_of (path_of f) f.recorded.number)
    → e.seen (keys_of (path_of f) f.recorded.number) ≡ d.seen (keys_of (path_of f) f.recorded.number) → IsLegible d f → IsLegible e f
legible_same d e f messages keys was = grind arith

pub legible_quiet : (d e : DiskState) (f : Folder) → ChangesNothing d e → IsLegible d f → IsLegible e f
legible_quiet d e f quiet was = legible_same d e f (quiet.seen (messages_of (path_of f) f.recorded.number)) (quiet.seen (keys_of (path_of f) f.recorded.number)) was

pub held_quiet : (d e : DiskState) (f : Folder) → ChangesNothing d e → held_by e f ≡ held_by d f
held_quiet d e f quiet = ap (λ (b : BaseBytes). and_waiting b f.waiting) (base_quiet d e (path_of f) f.recorded quiet)

pub keys_count : (d : DiskState) (path : List ℕ) (end : End) (recorded : CommitRecord) → IsStaged d path end recorded → length (base_at d path recorded).keys ≡ recorded.keys
keys_count d path end recorded staged = length-take-le recorded.keys (bytes_in (d.seen (keys_of path recorded.number))) staged.keys_long

pub keys_all : (d : DiskState) (f : Folder) → IsLegible d f → length (held_by d f).keys ≡ f.keys
keys_all d f legible = grind (arith, length-take-le, length-append)

pub messages_all : (d : DiskState) (f : Folder) → IsLegible d f → length (held_by d f).messages ≡ next_place f
messages_all d f legible = grind (arith, length-take-le, length-append)
