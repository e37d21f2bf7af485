-- A base folder while a call makes new files that replace its own.
use Rattle.std.proofs.Common.{◌≡◌, ◌/◌, ℕ, List, length, sym, ap, subst, ◌∙◌, arith}
use Rattle.disk_io.specs.{Disk.DiskState, Runs.ChangesNothing}
use Rattle.base_log.specs.{AtRest.IsAtRest, Names.keys_of, Names.messages_of, Standing.BaseBytes, Standing.base_at, declared.log.CommitRecord.CommitRecord}
use Rattle.base_log.proofs.Paths.{keys_not_messages, keys_of-injective, messages_not_keys, messages_of-injective}
use Rattle.base_file.specs.Base.{Base}
use Rattle.base_store.specs.Keys.{AreWhereRecorded}
use Rattle.base_folder_store.specs.Opened.{IsOpen, IsWritten, committed_by, held_by, path_of}
use Rattle.base_folder_store.specs.{Added.SameOthersThanBoth, Held.HoldsBase, Left.IsStagedIn, Left.IsReadable, declared.folder.Folder.Folder}
use Rattle.base_folder_store.proofs.{Bases.recorded_where, Legible.keys_all, Legible.legible_open, Legible.legible_same, Staged.committed_staged, Waits.written_held}

pub committed_others : (d : DiskState) (f g : Folder) → IsStagedIn f g → committed_by d g ≡ committed_by d f
committed_others d f g others = λ i. base_at d (others.path i) (others.end i).recorded

readable_same : (d e : DiskState) (f : Folder) → e.seen (messages_of (path_of f) f.end.recorded.number) ≡ d.seen (messages_of (path_of f) f.end.recorded.number)
    → e.seen (keys_of (path_of f) f.end.recorded.number) ≡ d.seen (keys_of (path_of f) f.end.recorded.number) → IsReadable d f → IsReadable e f
readable_same d e f messages keys was = grind (arith, legible_same)

pub readable_quiet : (d e : DiskState) (f : Folder) → ChangesNothing d e → IsReadable d f → IsReadable e f
readable_quiet d e f quiet was = readable_same d e f (quiet.seen (messages_of (path_of f) f.end.recorded.number)) (quiet.seen (keys_of (path_of f) f.end.recorded.number)) was

pub readable_others : (d e : DiskState) (f g : Folder) → IsStagedIn f g → SameOthersThanBoth (path_of g) g.recorded.number d.seen e.seen → IsReadable d f → IsReadable e f
readable_others d e f g others same was = grind (arith, messages_of-injective, messages_not_keys, keys_not_messages, keys_of-injective, readable_same)

pub rest_readable : (d : DiskState) (f : Folder) → IsOpen d f → f.end.recorded ≡ f.recorded → IsWritten f → IsReadable d f
rest_readable d f opened recorded none = record { legible = legible_open d f opened; recorded = recorded; written = none }

pub rest_open : (d e : DiskState) (f : Folder) → IsOpen d f → IsAtRest e (path_of f) f.end → f.end.recorded ≡ f.recorded → IsOpen e f
rest_open d e f opened rest recorded = record { names = opened.names; staged = committed_staged e (path_of f) f.end f.recorded rest recorded; keys = opened.keys }

pub rest_held : (d : DiskState) (f : Folder) → f.end.recorded ≡ f.recorded → IsWritten f → held_by d f ≡ committed_by d f
rest_held d f recorded none = written_held d f none ∙ ap (λ (t : CommitRecord). base_at d (path_of f) t) (sym recorded)

pub readable_held : (d : DiskState) (f : Folder) → IsReadable d f → held_by d f ≡ committed_by d f
readable_held d f readable = rest_held d f readable.recorded readable.written

pub recorded_readable : (keyed : ℕ → ℕ → List ℕ → ℕ) (d : DiskState) (f : Folder) (base : Base) → IsReadable d f → HoldsBase keyed (committed_by d f) base
    → AreWhereRecorded base.messages (held_by d f).messages (held_by d f).keys
recorded_readable keyed d f base readable holds =
    recorded_where keyed (held_by d f) base (subst (λ (b : BaseBytes). HoldsBase keyed b base) (sym (readable_held d f readable)) holds)

pub many_readable : (keyed : ℕ → ℕ → List ℕ → ℕ) (d : DiskState) (f : Folder) (base : Base) → IsReadable d f → HoldsBase keyed (committed_by d f) base → f.keys / 16 ≡ length base.messages
many_readable keyed d f base readable holds =
    let many = (recorded_readable keyed d f base readable holds).many in
    let long = keys_all d f readable.legible in
    omega (arith, many, long)

pub cursor_open : (d : DiskState) (f : Folder) (cursor : ℕ) → IsOpen d f → IsOpen d (record f { recorded = record f.recorded { cursor = cursor } })
cursor_open d f cursor was = grind arith
