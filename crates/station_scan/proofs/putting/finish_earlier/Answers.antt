use Rattle.{std.proofs.{Common.{List, Result, subst, sym}, lemmas.Result.err_from_is_err_and}, disk_atomic.specs.ListStaged.AreListed}
use Rattle.{disk_atomic.specs.declared.{listing.StagedPacket.StagedPacket, placing_error.PlacingError.PlacingError}, base_store.proofs.Runs.quiet_disk}
use Rattle.station_scan.{specs.Left.{EndsLeft, IsOfNameOff}, proofs.{Lefts.{ends_for, nothing_left}, Written.used_none}}
use Rattle.station_scan.proofs.putting.finish_earlier.Goals as goal

pub returns-in_err-listed-clause-used : goal.returns-in_err-listed-clause-used
returns-in_err-listed-clause-used g c =
    let to = c.args.sending in
    used_none (IsOfNameOff (g.P.Paths.OwnPaths.is_own c.args.paths.now) to.outbound.now to.own.now) (g.P.Kept.Store.state c.args.store.now) (c.requires.settled c.args.store.now) c.requires.ready

pub returns-in_err-listed-clause-ends : goal.returns-in_err-listed-clause-ends
returns-in_err-listed-clause-ends g c = λ honest.
    let Own = g.P.Paths.OwnPaths.is_own c.args.paths.now in
    let to = c.args.sending in
    let d = (g.P.Kept.Store.state c.args.store.now).disk in
    let is_true = g.G.ListStaged.is_true c.left_staged.new.self d.seen in
    let p = err_from_is_err_and c.from_residual.result c.from_residual.ensures.1 in
    subst (λ (r : Result (Unit {0}) PlacingError). EndsLeft is_true Own to.outbound.now to.own.now c.args.cursor d d r) (sym p.1) (nothing_left is_true Own to.outbound.now to.own.now c.args.cursor d d (quiet_disk d) p.0)

pub returns-clause-ends : goal.returns-clause-ends
returns-clause-ends g c = λ honest.
    let to = c.args.sending in
    let d = (g.P.Kept.Store.state c.args.store.now).disk in
    let listed = c.as_slice.result.now in
    ends_for (AreListed to.outbound.now to.own.now d.seen listed) (g.G.ListStaged.is_true c.left_staged.new.self d.seen)
    (λ truth. subst (λ (l : List StagedPacket). AreListed to.outbound.now to.own.now d.seen l) (sym c.as_slice.ensures.value) (c.in_ok-listed.ensures.listed d.seen truth)) (g.P.Paths.OwnPaths.is_own c.args.paths.now) to.outbound.now to.own.now c.args.cursor d
    (g.P.Kept.Store.state c.with_disk.new.kept).disk c.with_disk.result (c.with_disk.ensures.done.ends honest)
