use Rattle.std.{proofs.{Common.{◌≡◌, Err, Ok, Some, sym, true, arith}, lemmas.Result.err_from_is_err_and}, specs.Prelude.slice_get}
use Rattle.base_file.specs.Base.{Base}
use Rattle.disk_io.specs.{Disk.{DiskState, Honestly}, Runs.ChangesNothing}
use Rattle.base_store.specs.declared.index.Index.{Index}
use Rattle.base_folder_store.specs.{Ahead.AreParts, State.IsCached, State.state_of, State.where_so, Opened.held_by, declared.folder.Folder.Folder, declared.read_ahead.Buffers.Buffers, declared.reading.ReadMessage.ReadMessage}
use Rattle.base_folder_store.proofs.{Bases.recorded_where, Legible.held_quiet, Legible.legible_open, Cached.indexed_held, Cached.parts_held, Seen.many_messages, Seen.read_there}
use Rattle.base_folder_store.proofs.{Stated.handed_cause, Stated.looks, Stated.none_there, WhereSo.looks_where}
use Rattle.base_folder_store.proofs.folder_store.FolderStoreStore.fetch.Goals as goal

pub returns-then-place-count-clause-cause : goal.returns-then-place-count-clause-cause
returns-then-place-count-clause-cause g c = grind (arith, none_there, many_messages)

pub returns-in_err-read-clause-cause : goal.returns-in_err-read-clause-cause
returns-in_err-read-clause-cause g c =
    let s = c.args.self.now in
    let d = g.D.Disk.state s.disk in
    let keyed = g.H.Digest.keyed in
    let p = err_from_is_err_and c.from_residual.result c.from_residual.ensures.1 in
    rw (p.1, p.2)
    (handed_cause (where_so (state_of d keyed s.folder s.message) (IsCached d s.folder s.index s.buffers) s.unread)
    (where_so (state_of (g.D.Disk.state c.read.new.disk) keyed s.folder c.take-gone.new.self) (IsCached (g.D.Disk.state c.read.new.disk) s.folder s.index c.read.new.buffers) true) (λ (base : Base) (read : ReadMessage). slice_get base.messages c.args.place ≡ Some read.message) (g.D.Disk.failures s.disk) (g.D.Disk.failures c.read.new.disk) c.in_err-read.field-0.0
    c.in_err-read.ensures.cause (λ honest base holds.
    let was = c.in_err-read.ensures.quiet.honest honest in
    read_there (held_by d s.folder) base.messages c.args.place (Err c.in_err-read.field-0.0) (c.in_err-read.ensures.there honest) (recorded_where keyed (held_by d s.folder) base holds) (c.requires.within was base holds)))

pub returns-clause-fetched : goal.returns-clause-fetched
returns-clause-fetched g c = λ honest base holds.
    let s = c.args.self.now in
    let d = g.D.Disk.state s.disk in
    let keyed = g.H.Digest.keyed in
    let was = c.in_ok-read.ensures.quiet.honest honest in
    sym (read_there (held_by d s.folder) base.messages c.args.place (Ok c.in_ok-read.read) (c.in_ok-read.ensures.there honest) (recorded_where keyed (held_by d s.folder) base holds) (c.requires.within was base holds))

cached_after : (d e : DiskState) (f : Folder) (i : Index) (b h : Buffers) → ChangesNothing d e → IsCached d f i b → Honestly e (AreParts (held_by d f).messages (held_by d f).keys h) → IsCached e f i h
cached_after d e f i b h quiet was parts honest = let same = held_quiet d e f quiet in (indexed_held d e f f i same (was (quiet.honest honest)).0, parts_held d e f f h same (parts honest))

pub returns-in_err-read-clause-looks : goal.returns-in_err-read-clause-looks
returns-in_err-read-clause-looks g c =
    let s = c.args.self.now in
    let d = g.D.Disk.state s.disk in
    let e = g.D.Disk.state c.read.new.disk in
    let keyed = g.H.Digest.keyed in
    let gone = c.take-gone.new.self in
    looks_where (state_of d keyed s.folder s.message) (state_of e keyed s.folder gone) (IsCached d s.folder s.index s.buffers) (IsCached e s.folder s.index c.read.new.buffers) s.unread true
    (looks d e keyed s.folder s.message gone c.requires.ready.0 c.read.ensures.quiet) (cached_after d e s.folder s.index s.buffers c.read.new.buffers c.read.ensures.quiet c.requires.ready.1 c.read.ensures.parts) (λ is. absurd (cc))

pub returns-clause-looks : goal.returns-clause-looks
returns-clause-looks g c =
    let s = c.args.self.now in
    let d = g.D.Disk.state s.disk in
    let e = g.D.Disk.state c.read.new.disk in
    let keyed = g.H.Digest.keyed in
    let message = Some c.in_ok-read.read.message in
    looks_where (state_of d keyed s.folder s.message) (state_of e keyed s.folder message) (IsCached d s.folder s.index s.buffers) (IsCached e s.folder s.index c.read.new.buffers) s.unread s.unread
    (looks d e keyed s.folder s.message message c.requires.ready.0 c.read.ensures.quiet) (cached_after d e s.folder s.index s.buffers c.read.new.buffers c.read.ensures.quiet c.requires.ready.1 c.read.ensures.parts) (λ is. is)

pub read-requires-clause-legible : goal.read-requires-clause-legible
read-requires-clause-legible g c honest = legible_open (g.D.Disk.state c.args.self.now.disk) c.args.self.now.folder (c.requires.ready.0.opened honest)
