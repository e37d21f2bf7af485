use Rattle.std.{proofs.Common.{◌≡◌, ◌≢◌, ◌<◌, ◌∙◌, ⊎_elim, List, Result, Err, ap, arith, length, map, refl, subst, sym}, specs.Prelude.{All, IsErrOf}}
use Rattle.std.proofs.lemmas.{Result.err_from_is_err_and, Result.on_ok_weaker, Bool.eqb-false, Bool.eqb-true}
use Rattle.disk_atomic.specs.declared.{outgoing.Outgoing.Outgoing, placing_error.PlacingError.PlacingError, placing_error.PlacingError.TheVariants.Taken}
use Rattle.station_scan.{specs.{Fitting.IsOff, Passing.{begun_in, copied_in, with_group}}, proofs.Published.own_not_staging}
use Rattle.station_scan.proofs.Passes.{begun_going, copied_going, group_appending, group_making, group_staged, group_taken, group_unfit, none_making, none_staged, staged_none}
use Rattle.station_scan.proofs.passing.add_group.Goals as goal

pub returns-in_err-going-clause-stages : goal.returns-in_err-going-clause-stages
returns-in_err-going-clause-stages g c = λ sent making.
    staged_none (g.P.Paths.OwnPaths.is_own c.args.paths.now) c.args.sending (g.P.Kept.Store.state c.args.store.now) c.requires.ready sent c.args.group.now.sent c.args.packets.now.items making _ refl

pub returns-in_err-going-clause-taken : goal.returns-in_err-going-clause-taken
returns-in_err-going-clause-taken g c = λ honest is sent making.
    let p = err_from_is_err_and c.from_residual.result c.from_residual.ensures.1 in
    let at : IsErrOf {T = Unit {0}} (Err p.0) Taken = subst (λ (r : Result (Unit {0}) PlacingError). IsErrOf r Taken) p.1 is in
    let taken : p.0 ≡ Taken = cc at in
    group_unfit (g.P.Paths.OwnPaths.is_own c.args.paths.now) c.args.sending (g.P.Kept.Store.state c.args.store.now) c.requires.ready sent c.args.group.now.sent c.args.packets.now.items making (map (with_group c.args.group.now.sent) c.deref.result.now)
    (ap (map (with_group c.args.group.now.sent)) c.deref.ensures.value)
    (⊎_elim (λ e. absurd (cc (e, p.2, taken))) (λ e. e.1) c.in_err-going.ensures.err)

pub returns-then-is_empty-clause-stages : goal.returns-then-is_empty-clause-stages
returns-then-is_empty-clause-stages g c = grind (arith, none_staged)

pub returns-then-is_empty-clause-making : goal.returns-then-is_empty-clause-making
returns-then-is_empty-clause-making g c = λ sent making.
    let did = c.in_ok-going.ensures in
    let counted = did.counted ∙ ap (map (with_group c.args.group.now.sent)) c.deref.ensures.value in
    none_making (g.P.Paths.OwnPaths.is_own c.args.paths.now) c.args.sending (g.P.Kept.Store.state c.args.store.now) c.requires.ready sent c.args.group.now.sent c.args.packets.now.items making c.in_ok-going.going.counted.items counted c.in_ok-going.going.begun.items
    c.as_slice-copied.result.now did.begun (c.as_slice-copied.ensures.value ∙ did.copied) did.off (eqb-true _ _ (sym c.is_empty.ensures ∙ c.if-is_empty.true))

pub with_disk-requires : goal.with_disk-requires
with_disk-requires g c κs =
    let Own = g.P.Paths.OwnPaths.is_own c.args.paths.now in
    let to = c.args.sending in
    let s = g.P.Kept.Store.state c.args.store.now in
    let more = c.args.group.now.sent in
    let all = c.args.packets.now.items in
    let going = c.in_ok-going.going in
    let did = c.in_ok-going.ensures in
    let counted = did.counted ∙ ap (map (with_group c.args.group.now.sent)) c.deref.ensures.value in
    let copied = c.as_slice-copied.result.now in
    let begun = c.as_slice-begun.result.now in
    let copied_are : copied ≡ copied_in going.counted.items = c.as_slice-copied.ensures.value ∙ did.copied in
    let begun_are : begun ≡ begun_in going.counted.items = c.as_slice-begun.ensures.value ∙ did.begun in
    let off = subst (λ (l : List Outgoing). All (IsOff Own to.trial.now) l) (sym c.as_slice-begun.ensures.value) did.off in
    let some : 0 < length copied = let not : length copied ≢ 0 = eqb-false _ _ (sym c.is_empty.ensures ∙ c.if-is_empty.false) in omega arith in
    let (sent, making) = c.requires.making in
    let copied_go = copied_going Own to s c.requires.ready sent more all making going.counted.items counted begun copied begun_are copied_are off some in (
      (refl, tt),
      (
        c.requires.ready.ready,
        (
          own_not_staging s to.outbound.now to.trial.now copied copied_go,
          record {
            some = some;
            copied_placed = copied_go.placed;
            begun_placed = (begun_going Own to s c.requires.ready sent more all making going.counted.items counted begun copied begun_are copied_are off some).placed;
            appending = (sent, group_appending Own to s c.requires.ready sent more all making going.counted.items counted begun copied begun_are copied_are off);
          },
        ),
      ),
    )

pub returns-clause-stages : goal.returns-clause-stages
returns-clause-stages g c = λ sent making.
    let Own = g.P.Paths.OwnPaths.is_own c.args.paths.now in
    let to = c.args.sending in
    let s = g.P.Kept.Store.state c.args.store.now in
    let more = c.args.group.now.sent in
    let all = c.args.packets.now.items in
    let going = c.in_ok-going.going in
    let did = c.in_ok-going.ensures in
    let counted = did.counted ∙ ap (map (with_group c.args.group.now.sent)) c.deref.ensures.value in
    let copied = c.as_slice-copied.result.now in
    let begun = c.as_slice-begun.result.now in
    let copied_are : copied ≡ copied_in going.counted.items = c.as_slice-copied.ensures.value ∙ did.copied in
    let begun_are : begun ≡ begun_in going.counted.items = c.as_slice-begun.ensures.value ∙ did.begun in
    let off = subst (λ (l : List Outgoing). All (IsOff Own to.trial.now) l) (sym c.as_slice-begun.ensures.value) did.off in
    let some : 0 < length copied = let not : length copied ≢ 0 = eqb-false _ _ (sym c.is_empty.ensures ∙ c.if-is_empty.false) in omega arith in
    group_staged Own to s c.requires.ready sent more all making going.counted.items counted begun copied begun_are copied_are off some (g.P.Kept.Store.state c.with_disk.new.kept) c.with_disk.ensures.used

pub returns-clause-making : goal.returns-clause-making
returns-clause-making g c = λ sent making.
    let Own = g.P.Paths.OwnPaths.is_own c.args.paths.now in
    let to = c.args.sending in
    let s = g.P.Kept.Store.state c.args.store.now in
    let more = c.args.group.now.sent in
    let all = c.args.packets.now.items in
    let going = c.in_ok-going.going in
    let did = c.in_ok-going.ensures in
    let counted = did.counted ∙ ap (map (with_group c.args.group.now.sent)) c.deref.ensures.value in
    let copied = c.as_slice-copied.result.now in
    let begun = c.as_slice-begun.result.now in
    let copied_are : copied ≡ copied_in going.counted.items = c.as_slice-copied.ensures.value ∙ did.copied in
    let begun_are : begun ≡ begun_in going.counted.items = c.as_slice-begun.ensures.value ∙ did.begun in
    let off = subst (λ (l : List Outgoing). All (IsOff Own to.trial.now) l) (sym c.as_slice-begun.ensures.value) did.off in
    on_ok_weaker c.with_disk.result (group_making Own to s c.requires.ready sent more all making going.counted.items counted begun copied begun_are copied_are off (g.P.Kept.Store.state c.with_disk.new.kept).disk)
    (c.with_disk.ensures.done.grows sent (group_appending Own to s c.requires.ready sent more all making going.counted.items counted begun copied begun_are copied_are off))

pub returns-clause-taken : goal.returns-clause-taken
returns-clause-taken g c = λ honest is sent making.
    let Own = g.P.Paths.OwnPaths.is_own c.args.paths.now in
    let to = c.args.sending in
    let s = g.P.Kept.Store.state c.args.store.now in
    let more = c.args.group.now.sent in
    let all = c.args.packets.now.items in
    let going = c.in_ok-going.going in
    let did = c.in_ok-going.ensures in
    let counted = did.counted ∙ ap (map (with_group c.args.group.now.sent)) c.deref.ensures.value in
    let copied = c.as_slice-copied.result.now in
    let begun = c.as_slice-begun.result.now in
    let copied_are : copied ≡ copied_in going.counted.items = c.as_slice-copied.ensures.value ∙ did.copied in
    let begun_are : begun ≡ begun_in going.counted.items = c.as_slice-begun.ensures.value ∙ did.begun in
    let off = subst (λ (l : List Outgoing). All (IsOff Own to.trial.now) l) (sym c.as_slice-begun.ensures.value) did.off in
    group_taken Own to s c.requires.ready sent more all making going.counted.items counted begun copied begun_are copied_are off (c.with_disk.ensures.done.taken honest is)
