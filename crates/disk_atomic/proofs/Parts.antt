use Rattle.std.{proofs.Common.{◌≡◌, ◌∙◌, ℕ, ◌≤◌, List, ◌++◌, length, take, drop, Some, ap, refl, sym, arith, append_assoc}, specs.Prelude.IsSome}
use Rattle.std.proofs.lemmas.List.{append-nil, drop-append-le, drop_all, length-take, length-take-le, nil_from_length, take-append-drop, take-append-le}
use Rattle.disk_io.specs.{Disk.DiskState, Disk.bytes_in, Runs.ChangesNothing}
use Rattle.disk_atomic.{specs.{Changes.{HasOnDisk, IsGrowing}, Keeping.HasPart}, proofs.Whole.file_of_bytes}

pub still_grows : (old new : DiskState) (path : List ℕ) (at : ℕ) → ChangesNothing old new → IsGrowing old path at → IsGrowing new path at
still_grows old new path at quiet was = grind arith

pub parts_join : (bytes : List ℕ) (from done next : ℕ) → from ≤ done → done ≤ next → next ≤ length bytes → drop from (take done bytes) ++ drop done (take next bytes) ≡ drop from (take next bytes)
parts_join bytes from done next low high within =
    let long : length (take next bytes) ≡ next = length-take-le next bytes within in
    let front : take done (take next bytes) ≡ take done bytes =
    sym (take-append-le done (take next bytes) (drop next bytes) (omega (arith, long, high))) ∙ ap (take done) (take-append-drop next bytes) in
    let size : length (take done bytes) ≡ done = length-take-le done bytes (omega (arith, high, within)) in
    sym (
    ap (drop from) (sym (take-append-drop done (take next bytes)) ∙ ap (λ l. l ++ drop done (take next bytes)) front)
    ∙ drop-append-le from (take done bytes) (drop done (take next bytes)) (omega (arith, size, low))
    )

pub part_more : (file was now bytes : List ℕ) (from done next : ℕ) → from ≤ done → done ≤ next → next ≤ length bytes → was ≡ file ++ drop from (take done bytes)
    → now ≡ was ++ drop done (take next bytes) → now ≡ file ++ drop from (take next bytes)
part_more file was now bytes from done next low high within before here = grind (arith, append_assoc, parts_join)

pub part_none : (file bytes : List ℕ) (from : ℕ) → file ≡ file ++ drop from (take from bytes)
part_none file bytes from = grind (arith, drop_all, length-take, append-nil)

pub all_kept : (none first second third head part tail : List ℕ) → length none ≡ 0 → first ≡ none ++ head → second ≡ first ++ part → third ≡ second ++ tail → third ≡ head ++ (part ++ tail)
all_kept none first second third head part tail empty one two three = grind (arith, nil_from_length, append_assoc)

pub all_on_disk : (disk : DiskState) (path : List ℕ) → IsSome (disk.seen path) → disk.is_named path → disk.is_flushed path → HasOnDisk disk path (bytes_in (disk.seen path))
all_on_disk disk path there named flushed = record { seen = file_of_bytes (disk.seen path) (bytes_in (disk.seen path)) there refl; named = named; flushed = flushed }

pub on_disk_as : (disk : DiskState) (path bytes : List ℕ) → HasOnDisk disk path (bytes_in (disk.seen path)) → bytes_in (disk.seen path) ≡ bytes → HasOnDisk disk path bytes
on_disk_as disk path bytes has is = record { seen = has.seen ∙ ap (λ l. Some l) is; named = has.named; flushed = has.flushed }

pub part_still : (d e : DiskState) (path : List ℕ) (from to : ℕ) → e.seen path ≡ d.seen path → (e.is_honest → d.is_honest) → HasPart d path from to → HasPart e path from to
part_still d e path from to same since part = grind arith
