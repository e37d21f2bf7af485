use Rattle.std.{proofs.{Common.{Result, arith, subst, sym}, lemmas.Result.err_from_is_err_and}, specs.Prelude.IfErr}
use Rattle.station_scan.specs.{Publishing.StopsCommitting, declared.publish_error.PublishError.PublishError}
use Rattle.station_scan.proofs.Published.{all_filled, apart_still, commits_still, naming, published_if, same_staged, staged_still}
use Rattle.station_scan.proofs.publishing.commit_staged.Goals as goal

pub returns-clause-published : goal.returns-clause-published
returns-clause-published g c =
    let s0 = g.P.Kept.Store.state c.args.store.now in
    let s1 = g.P.Kept.Store.state c.commit.new.self in
    let s2 = g.P.Kept.Store.state c.with_disk-named.new.kept in
    let used = c.with_disk-named.ensures.used in
    published_if c.args.packets.now s0 s1 s2 c.with_disk-named.result c.named_done.result c.named_done.ensures (λ honest. c.commit.ensures.either.others.honest (used.changes.honest honest))
    (same_staged c.args.packets.now s0 c.requires.apart s1 c.commit.ensures.either c.requires.staged) c.with_disk-named.ensures.done.named c.with_disk-named.ensures.done.settled (commits_still s0 s1 s2 c.in_ok-commit.ensures.committed used.holds used.changes.honest) c.requires.staged.bytes

pub returns-clause-any_moment : goal.returns-clause-any_moment
returns-clause-any_moment g c = λ honest first next was is.
    let s0 = g.P.Kept.Store.state c.args.store.now in
    let s1 = g.P.Kept.Store.state c.commit.new.self in
    let s2 = g.P.Kept.Store.state c.with_disk-named.new.kept in
    let used = c.with_disk-named.ensures.used in
    naming c.args.packets.now s0 c.requires.apart s1 c.commit.ensures.either c.requires.staged s2 c.in_ok-commit.ensures.committed used (used.changes.honest honest)
    (c.with_disk-named.ensures.done.any_moment honest) first next was is

pub returns-in_err-commit-clause-left : goal.returns-in_err-commit-clause-left
returns-in_err-commit-clause-left g c =
    let s0 = g.P.Kept.Store.state c.args.store.now in
    let s1 = g.P.Kept.Store.state c.commit.new.self in
    let filled = all_filled c.args.packets.now s0 c.requires.apart s1 c.commit.ensures.either c.requires.staged in
    let p = err_from_is_err_and c.from_residual.result c.from_residual.ensures.1 in
    subst (λ (r : Result (Unit {0}) PublishError). IfErr r (StopsCommitting c.args.packets.now s0 s1)) (sym p.1) (subst (λ (e : PublishError). StopsCommitting c.args.packets.now s0 s1 e) (sym p.2) filled)

pub with_disk-named-requires : goal.with_disk-named-requires
with_disk-named-requires g c κs = grind (arith, apart_still, staged_still)
