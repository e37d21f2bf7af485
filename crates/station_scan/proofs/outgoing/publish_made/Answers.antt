use Rattle.{std.proofs.{Common.{◌≡◌, ◌≢◌, ◌<◌, ◌∙◌, ⊎_elim, arith, inl, length, refl, sym}, lemmas.Bool.{eqb-false, eqb-true}}, disk_io.specs.Device.Failed}
use Rattle.station_scan.{specs.{Passing.{is_made, made_in}, Publishing.{IsGoingAt, IsPublishedAt}, Scanning.IsTouched}, proofs.Grown.open_growing}
use Rattle.station_scan.proofs.{Passes.{for_made, made_going, made_touched}, Published.store_wider, Sendings.{sends_alone, sends_none, sends_published}}
use Rattle.station_scan.proofs.outgoing.publish_made.Goals as goal

pub returns-in-Err-clause-sends : goal.returns-in-Err-clause-sends
returns-in-Err-clause-sends g c = λ before passed honest base moved.
    sends_none g.D.Disk.state (g.P.Paths.OwnPaths.is_own c.args.paths.now) c.args.sending _ (g.P.Kept.Store.state before) (g.P.Kept.Store.state c.args.store.now) c.args.packets.now passed base moved c.requires.ready honest

pub returns-then-is_empty-clause-sends : goal.returns-then-is_empty-clause-sends
returns-then-is_empty-clause-sends g c = λ before passed honest base moved.
    let to = c.args.sending in
    let s1 = g.P.Kept.Store.state c.args.store.now in
    let did = c.commit_alone.ensures in
    let f1 = g.P.Kept.Store.failures c.args.store.now in
    let f2 = g.P.Kept.Store.failures c.commit_alone.new.store in
    let made = c.as_slice-ended.result.now in
    sends_alone g.D.Disk.state (g.P.Paths.OwnPaths.is_own c.args.paths.now) to (Failed f1 f2) (g.P.Kept.Store.state before) s1 c.args.packets.now passed base moved c.requires.ready (did.either.others.honest honest) made
    (for_made to c.requires.ready.routes passed.sent c.args.packets.now passed.counted made (c.as_slice-ended.ensures.value ∙ c.in-Ok.ensures)) (g.P.Kept.Store.state c.commit_alone.new.store) honest f1 f2 c.commit_alone.result g.P.Kept.Store.state did.cause (λ f. f)
    (eqb-true _ _ (sym c.is_empty.ensures ∙ c.if-is_empty.true)) did.base did.committed did.either

pub publish-requires : goal.publish-requires
publish-requires g c κs =
    let Own = g.P.Paths.OwnPaths.is_own c.args.paths.now in
    let to = c.args.sending in
    let s1 = g.P.Kept.Store.state c.args.store.now in
    let made = c.as_slice-ended.result.now in
    let made_are : made ≡ made_in c.args.packets.now = c.as_slice-ended.ensures.value ∙ c.in-Ok.ensures in
    let some : 0 < length made = let not : length made ≢ 0 = eqb-false _ _ (sym c.is_empty.ensures ∙ c.if-is_empty.false) in omega arith in
    let making = c.requires.making in
    let for = for_made to c.requires.ready.routes making.0 c.args.packets.now making.1.counted made made_are in (
      (refl, tt),
      record {
        ready = c.requires.ready.ready;
        off = made_going to c.requires.ready.routes making.0 c.args.packets.now making.1.counted made made_are Own s1 c.requires.ready making.1.fit some;
        opened = open_growing to making.0 (is_made making.0) made for s1.disk some making.1.grows;
      },
    )

pub returns-clause-sends : goal.returns-clause-sends
returns-clause-sends g c = λ before passed honest base moved.
    let to = c.args.sending in
    let s1 = g.P.Kept.Store.state c.args.store.now in
    let did = c.publish.ensures in
    let f1 = g.P.Kept.Store.failures c.args.store.now in
    let f2 = g.P.Kept.Store.failures c.publish.new.store in
    let made = c.as_slice-ended.result.now in
    let made_are : made ≡ made_in c.args.packets.now = c.as_slice-ended.ensures.value ∙ c.in-Ok.ensures in
    sends_published g.D.Disk.state (g.P.Paths.OwnPaths.is_own c.args.paths.now) to (Failed f1 f2) (g.P.Kept.Store.state before) s1 c.args.packets.now passed base moved c.requires.ready (did.keeps.keeps.honest honest) made
    (for_made to c.requires.ready.routes passed.sent c.args.packets.now passed.counted made made_are) (g.P.Kept.Store.state c.publish.new.store) honest f1 f2 c.publish.result g.P.Kept.Store.state did.cause (λ f. f)
    did.published did.any_moment did.keeps (did.taken honest) did.tried (did.left honest)

pub returns-clause-keeps : goal.returns-clause-keeps
returns-clause-keeps g c =
    let to = c.args.sending in
    let s1 = g.P.Kept.Store.state c.args.store.now in
    let made = c.as_slice-ended.result.now in
    let made_are : made ≡ made_in c.args.packets.now = c.as_slice-ended.ensures.value ∙ c.in-Ok.ensures in
    let making = c.requires.making in
    store_wider (IsPublishedAt s1 (IsGoingAt made to.trial.now)) (IsTouched s1.is_own to.outbound.now) s1 (g.P.Kept.Store.state c.publish.new.store)
    (λ m is. ⊎_elim (λ o. inl o) (λ at. made_touched to c.requires.ready.routes making.0 c.args.packets.now making.1.counted made made_are s1.is_own m at) is) c.publish.ensures.keeps
