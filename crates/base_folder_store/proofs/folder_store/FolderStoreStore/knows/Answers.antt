use Rattle.std.proofs.Common.{◌≡◌, Bool, arith}
use Rattle.base_file.specs.Base.{Base, is_known}
use Rattle.base_folder_store.specs.{Opened.held_by, State.IsCached, State.state_of, State.where_so}
use Rattle.base_folder_store.proofs.{Bases.recorded_where, Cached.indexed_held, Cached.parts_held, Legible.held_quiet, Legible.legible_open, Seen.key_digest}
use Rattle.base_folder_store.proofs.{Stated.answered, Stated.looks, Stated.read_cause, Stated.sound_kept, WhereSo.looks_where}
use Rattle.base_folder_store.proofs.folder_store.FolderStoreStore.knows.Goals as goal

pub returns-clause-found : goal.returns-clause-found
returns-clause-found g c = λ honest base holds.
    let s = c.args.self.now in
    let d = g.D.Disk.state s.disk in
    let keyed = g.H.Digest.keyed in
    answered (λ (found : Bool). found ≡ is_known base.messages c.args.key.now) c.find-found.result
    (c.find-found.ensures.found honest base.messages (recorded_where keyed (held_by d s.folder) base holds)
    (key_digest keyed (held_by d s.folder) base c.args.key.now c.in_ok-digest.digest holds c.in_ok-digest.ensures))

pub returns-clause-cause : goal.returns-clause-cause
returns-clause-cause g c =
    let s = c.args.self.now in
    let d = g.D.Disk.state s.disk in
    let keyed = g.H.Digest.keyed in
    let e = g.D.Disk.state c.find-found.new.disk in
    read_cause (where_so (state_of d keyed s.folder s.message) (IsCached d s.folder s.index s.buffers) s.unread) (where_so (state_of e keyed s.folder s.message) (IsCached e s.folder c.find-found.new.index c.find-found.new.buffers) c.note_look.new.unread) (λ (base : Base) (found : Bool). found ≡ is_known base.messages c.args.key.now) (g.D.Disk.failures s.disk) (g.D.Disk.failures c.find-found.new.disk) c.find-found.result c.find-found.ensures.cause
    (λ honest base holds. c.find-found.ensures.found honest base.messages (recorded_where keyed (held_by d s.folder) base holds)
    (key_digest keyed (held_by d s.folder) base c.args.key.now c.in_ok-digest.digest holds c.in_ok-digest.ensures))
    (sound_kept s.unread c.note_look.new.unread c.find-found.result c.note_look.ensures.ended)

pub find-found-requires-clause-legible : goal.find-found-requires-clause-legible
find-found-requires-clause-legible g c honest = legible_open (g.D.Disk.state c.args.self.now.disk) c.args.self.now.folder (c.requires.0.opened honest)

pub returns-clause-looks : goal.returns-clause-looks
returns-clause-looks g c = grind (arith, looks_where, looks, held_quiet, indexed_held, parts_held)
