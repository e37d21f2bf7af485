use Rattle.std.proofs.Common.{List, ℕ, subst, sym, arith}
use Rattle.base_store.proofs.Runs.{looks_commit, no_look}
use Rattle.base_file.specs.Alone.{IsStoredAlone}
use Rattle.base_folder_store.{specs.{Opened.held_by, State.{IsCached, state_of, where_so}}, proofs.WhereSo.{goes_on_where, nothing_where}}
use Rattle.base_folder_store.proofs.{Causes.at_error, Causes.done_both, Causes.handed_on, Cached.cached_more, Seen.filed_more, Stated.stages, Stated.went_on}
use Rattle.base_folder_store.proofs.folder_store.FolderStoreStore.file.Goals as goal

pub returns-in_err-bytes-clause-commits : goal.returns-in_err-bytes-clause-commits
returns-in_err-bytes-clause-commits g c =
    let s = c.args.self.now in
    let old = where_so (state_of (g.D.Disk.state s.disk) g.H.Digest.keyed s.folder s.message) (IsCached (g.D.Disk.state s.disk) s.folder s.index s.buffers) s.unread in
    looks_commit old old c.requires.ready (no_look old c.requires.ready)

pub returns-in_err-digest-clause-commits : goal.returns-in_err-digest-clause-commits
returns-in_err-digest-clause-commits g c =
    let s = c.args.self.now in
    let old = where_so (state_of (g.D.Disk.state s.disk) g.H.Digest.keyed s.folder s.message) (IsCached (g.D.Disk.state s.disk) s.folder s.index s.buffers) s.unread in
    looks_commit old old c.requires.ready (no_look old c.requires.ready)

pub returns-clause-filed : goal.returns-clause-filed
returns-clause-filed g c = λ honest base holds.
    let s = c.args.self.now in
    let keyed = g.H.Digest.keyed in
    let before = held_by (g.D.Disk.state s.disk) s.folder in
    let stored = subst (λ (l : List ℕ). IsStoredAlone c.args.message l) (sym c.deref.ensures.value) c.in_ok-bytes.ensures.stored in
    let after = held_by (g.D.Disk.state c.stage.new.disk) c.stage.new.self in
    done_both (λ staged fits. filed_more keyed after before base c.args.message c.args.key c.deref.result.now c.in_ok-digest.digest staged fits holds stored c.in_ok-bytes.ensures.filed c.requires.own (c.requires.new (c.stage.ensures.run.outside.honest honest) base holds) c.in_ok-digest.ensures)
    c.stage.result (c.stage.ensures.staged honest) (c.stage.ensures.fits honest)

pub returns-clause-goes_on : goal.returns-clause-goes_on
returns-clause-goes_on g c =
    let s = c.args.self.now in
    let d = g.D.Disk.state s.disk in
    let e = g.D.Disk.state c.stage.new.disk in
    let keyed = g.H.Digest.keyed in
    let now = c.stage.new.self in
    let says = c.stage.ensures in
    goes_on_where (state_of d keyed s.folder s.message) (state_of e keyed now s.message) (IsCached d s.folder s.index s.buffers) (IsCached e now s.index s.buffers) s.unread c.stage.result
    (went_on d e keyed s.folder now s.message s.message c.stage.result says.stays says.same says.run.outside)
    (cached_more d e s.folder now s.index s.buffers c.stage.result c.deref.result.now c.in_ok-digest.digest says.staged says.run.outside.honest c.requires.ready.1)

pub returns-clause-undone : goal.returns-clause-undone
returns-clause-undone g c = at_error c.stage.result (λ honest undoes base holds. absurd undoes)

pub returns-clause-commits : goal.returns-clause-commits
returns-clause-commits g c =
    let s = c.args.self.now in
    let d = g.D.Disk.state s.disk in
    let e = g.D.Disk.state c.stage.new.disk in
    let keyed = g.H.Digest.keyed in
    let now = c.stage.new.self in
    nothing_where (state_of d keyed s.folder s.message) (state_of e keyed now s.message) (IsCached d s.folder s.index s.buffers) (IsCached e now s.index s.buffers) s.unread
    (stages d e keyed s.folder now s.message s.message c.stage.ensures.stays.path c.stage.ensures.run)

pub returns-in_err-bytes-clause-many : goal.returns-in_err-bytes-clause-many
returns-in_err-bytes-clause-many g c is room = grind (arith, handed_on)

pub returns-clause-many : goal.returns-clause-many
returns-clause-many g c is room = grind arith
