use Rattle.{std.proofs.Common.arith, station_scan.specs.Publishing.ended_before}
use Rattle.station_scan.proofs.Published.{publish_keeps, published_from, publishing, staging_keeps, stopping, stops_before, stops_from}
use Rattle.station_scan.proofs.publishing.publish.Goals as goal

pub returns-clause-published : goal.returns-clause-published
returns-clause-published g c =
    let batch = c.args.batch in
    let s0 = g.P.Kept.Store.state c.args.store.now in
    let s1 = g.P.Kept.Store.state c.with_disk.new.kept in
    let did = c.with_disk.ensures in
    published_from batch.outbound.now batch.trial.now (ended_before s0) batch.packets.now s0 s1 (g.P.Kept.Store.state c.commit_staged.new.store) did.used c.commit_staged.ensures.keeps.keeps.honest
    (λ honest base kept. c.in_ok-with_disk.ensures.done.ended honest)
    c.commit_staged.result c.commit_staged.ensures.published

pub returns-clause-left : goal.returns-clause-left
returns-clause-left g c honest =
    let batch = c.args.batch in
    let s0 = g.P.Kept.Store.state c.args.store.now in
    let s1 = g.P.Kept.Store.state c.with_disk.new.kept in
    let did = c.with_disk.ensures in
    stops_from batch.outbound.now batch.trial.now (ended_before s0) batch.packets.now s0 s1 (g.P.Kept.Store.state c.commit_staged.new.store) did.used c.commit_staged.ensures.keeps.keeps.honest
    (λ at base kept. c.in_ok-with_disk.ensures.done.ended at)
    honest c.commit_staged.result c.commit_staged.ensures.left

pub returns-clause-any_moment : goal.returns-clause-any_moment
returns-clause-any_moment g c = λ honest first next was is.
    let batch = c.args.batch in
    let s0 = g.P.Kept.Store.state c.args.store.now in
    let s1 = g.P.Kept.Store.state c.with_disk.new.kept in
    let used = c.with_disk.ensures.used in
    let did = c.commit_staged.ensures in
    let honest1 = did.keeps.keeps.honest honest in
    publishing batch.outbound.now batch.trial.now (ended_before s0 next) batch.packets.now s0 c.requires.off c.requires.ready s1 used (g.P.Kept.Store.state c.commit_staged.new.store) honest1 first next was
    (c.in_ok-with_disk.ensures.done.ended honest1)
    (did.any_moment honest first next (used.holds.committed first was) (used.holds.keeps next is))

pub returns-clause-keeps : goal.returns-clause-keeps
returns-clause-keeps = grind (arith, publish_keeps)

pub returns-then-not-branch-clause-any_moment : goal.returns-then-not-branch-clause-any_moment
returns-then-not-branch-clause-any_moment g c = grind (arith, stopping)

pub returns-then-not-branch-clause-keeps : goal.returns-then-not-branch-clause-keeps
returns-then-not-branch-clause-keeps = grind (arith, staging_keeps)

pub returns-in_err-with_disk-clause-left : goal.returns-in_err-with_disk-clause-left
returns-in_err-with_disk-clause-left g c honest = grind (arith, stops_before)

pub returns-in_err-with_disk-clause-any_moment : goal.returns-in_err-with_disk-clause-any_moment
returns-in_err-with_disk-clause-any_moment g c = λ honest first next was is.
    let batch = c.args.batch in
    stopping batch.outbound.now batch.trial.now (ended_before (g.P.Kept.Store.state c.args.store.now) next) batch.packets.now (g.P.Kept.Store.state c.args.store.now) c.requires.off c.requires.ready (g.P.Kept.Store.state c.with_disk.new.kept) c.with_disk.ensures.used honest first next was

pub returns-in_err-with_disk-clause-keeps : goal.returns-in_err-with_disk-clause-keeps
returns-in_err-with_disk-clause-keeps g c = grind (arith, staging_keeps)
