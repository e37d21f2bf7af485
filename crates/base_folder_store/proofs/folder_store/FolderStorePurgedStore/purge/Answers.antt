use Rattle.std.proofs.{Common.◌≡◌, Common.inr, Common.sym, Common.subst, lemmas.Result.on_ok_weaker}
use Rattle.base_log.specs.Standing.{BaseBytes}
use Rattle.base_folder_store.specs.{Held.HoldsBase, Opened.committed_by, Opened.held_by, State.IsCached, State.IsUsable, State.state_of}
use Rattle.base_folder_store.proofs.{Causes.at_error, Causes.on_ok_from, Stated.may_commit, Stated.usable_after, WhereSo.may_commit_where}
use Rattle.base_folder_store.proofs.folder_store.FolderStorePurgedStore.purge.Goals as goal

pub returns-clause-count : goal.returns-clause-count
returns-clause-count g c = λ honest base holds. c.purge.ensures.count honest g.H.Digest.keyed base holds

pub returns-clause-purged : goal.returns-clause-purged
returns-clause-purged g c = λ honest base holds. c.purge.ensures.purged honest g.H.Digest.keyed base holds

pub returns-clause-committed : goal.returns-clause-committed
returns-clause-committed g c = λ honest.
    let s = c.args.self.now in
    let now = committed_by (g.D.Disk.state c.purge.new.disk) c.purge.new.self in
    let was = held_by (g.D.Disk.state s.disk) s.folder in
    on_ok_weaker {P = now ≡ was} c.purge.result (λ same. inr (λ base holds. subst (λ (b : BaseBytes). HoldsBase g.H.Digest.keyed b base) (sym same) holds)) (c.purge.ensures.committed honest)

pub returns-clause-ready : goal.returns-clause-ready
returns-clause-ready g c =
    let e = g.D.Disk.state c.purge.new.disk in
    let now = c.purge.new.self in
    on_ok_weaker {P = IsUsable e now} c.purge.result (λ usable. (usable, λ honest. (c.new-index.ensures (held_by e now).keys, c.new-buffers.ensures (held_by e now).messages (held_by e now).keys)))
    (usable_after e now c.purge.result c.purge.ensures.stays.named c.purge.ensures.stays.opened)

pub returns-clause-undone : goal.returns-clause-undone
returns-clause-undone g c = at_error c.purge.result (λ honest undoes base holds. absurd undoes)

pub returns-clause-either : goal.returns-clause-either
returns-clause-either g c =
    let s = c.args.self.now in
    let d = g.D.Disk.state s.disk in
    let e = g.D.Disk.state c.purge.new.disk in
    let keyed = g.H.Digest.keyed in
    let now = c.purge.new.self in
    may_commit_where (state_of d keyed s.folder s.message) (state_of e keyed now s.message) (IsCached d s.folder s.index s.buffers) (IsCached e now c.new-index.result c.new-buffers.result) s.unread
    (may_commit d e keyed s.folder now s.message s.message c.purge.ensures.stays.path c.purge.ensures.run)

pub returns-clause-cause : goal.returns-clause-cause
returns-clause-cause g c = record {
  later = c.purge.ensures.cause.later;
  failed = c.purge.ensures.cause.failed;
  damaged = λ honest is base holds. c.purge.ensures.cause.damaged honest is g.H.Digest.keyed base holds;
  undamaged = on_ok_from c.purge.result (λ was. was);
}
