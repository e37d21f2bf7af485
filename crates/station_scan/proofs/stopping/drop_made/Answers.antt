use Rattle.std.proofs.{Common.{◌≡◌, ◌≢◌, ◌<◌, ◌∙◌, arith, length, refl, sym}, lemmas.{Result.on_ok_weaker, Bool.{eqb-false, eqb-true}}}
use Rattle.station_scan.specs.Passing.{IsStagingTo, made_in}
use Rattle.station_scan.proofs.{Published.own_not_staging, Passes.made_going, Passes.made_gone, Passes.made_nowhere, Passes.made_used, Written.used_none}
use Rattle.station_scan.proofs.stopping.drop_made.Goals as goal

pub returns-in_err-made-clause-used : goal.returns-in_err-made-clause-used
returns-in_err-made-clause-used g c = λ sent are. used_none (IsStagingTo c.args.sending sent) (g.P.Kept.Store.state c.args.store.now) c.requires.ready.settled c.requires.ready.ready

pub returns-then-is_empty-clause-used : goal.returns-then-is_empty-clause-used
returns-then-is_empty-clause-used g c = λ sent are. used_none (IsStagingTo c.args.sending sent) (g.P.Kept.Store.state c.args.store.now) c.requires.ready.settled c.requires.ready.ready

pub returns-then-is_empty-clause-gone : goal.returns-then-is_empty-clause-gone
returns-then-is_empty-clause-gone g c = λ honest sent are m at.
    absurd (made_nowhere c.args.sending c.requires.ready.routes sent c.args.packets.now are c.as_slice-dropped.result.now (c.as_slice-dropped.ensures.value ∙ c.in_ok-made.ensures) (eqb-true _ _ (sym c.is_empty.ensures ∙ c.if-is_empty.true)) m at)

pub with_disk-requires : goal.with_disk-requires
with_disk-requires g c κs =
    let made_are : c.as_slice-dropped.result.now ≡ made_in c.args.packets.now = c.as_slice-dropped.ensures.value ∙ c.in_ok-made.ensures in
    let some : 0 < length c.as_slice-dropped.result.now = let not : length c.as_slice-dropped.result.now ≢ 0 = eqb-false _ _ (sym c.is_empty.ensures ∙ c.if-is_empty.false) in omega arith in
    let fit = c.requires.fit in
    let to = c.args.sending in
    let s0 = g.P.Kept.Store.state c.args.store.now in
    let made = c.as_slice-dropped.result.now in
    let going = made_going to c.requires.ready.routes fit.0 c.args.packets.now fit.1 made made_are (g.P.Paths.OwnPaths.is_own c.args.paths.now) s0 c.requires.ready fit.2 some in
    ((refl, tt), (c.requires.ready.ready, (own_not_staging s0 to.outbound.now to.trial.now made going, record { placed = going.placed; is_trial = going.is_trial })))

pub returns-clause-used : goal.returns-clause-used
returns-clause-used g c = λ sent are.
    let made_are : c.as_slice-dropped.result.now ≡ made_in c.args.packets.now = c.as_slice-dropped.ensures.value ∙ c.in_ok-made.ensures in
    let some : 0 < length c.as_slice-dropped.result.now = let not : length c.as_slice-dropped.result.now ≢ 0 = eqb-false _ _ (sym c.is_empty.ensures ∙ c.if-is_empty.false) in omega arith in
    made_used c.args.sending c.requires.ready.routes sent c.args.packets.now are c.as_slice-dropped.result.now made_are (g.P.Kept.Store.state c.args.store.now) (g.P.Kept.Store.state c.with_disk.new.kept) some c.with_disk.ensures.used

pub returns-clause-gone : goal.returns-clause-gone
returns-clause-gone g c = λ honest.
    let made_are : c.as_slice-dropped.result.now ≡ made_in c.args.packets.now = c.as_slice-dropped.ensures.value ∙ c.in_ok-made.ensures in
    on_ok_weaker c.with_disk.result
    (λ gone sent are. made_gone c.args.sending c.requires.ready.routes sent c.args.packets.now are c.as_slice-dropped.result.now made_are (g.P.Kept.Store.state c.with_disk.new.kept).disk gone) (c.with_disk.ensures.done.gone honest)
