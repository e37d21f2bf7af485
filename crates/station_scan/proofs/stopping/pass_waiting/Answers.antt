use Rattle.std.proofs.{Common.List, Common.refl, Common.subst, Common.sym, Common.arith, lemmas.Result.err_from_is_err_and}
use Rattle.station_scan.specs.{Passing.HasStaged, Passing.IsPartOf, declared.counting.LinkPacket.LinkPacket, declared.publish_error.PublishError.TheVariants.Staging}
use Rattle.station_scan.proofs.{Causes.publish_stop_cause, Causes.publish_stop_taken, Passes.can_still, Passes.making_new, Passes.stops_dropped, Passes.stops_none}
use Rattle.station_scan.proofs.stopping.pass_waiting.Goals as goal

pub pass_on-requires : goal.pass_on-requires
pass_on-requires g c κs =
    ((refl, tt), (c.requires.ready, making_new (g.P.Paths.OwnPaths.is_own c.args.paths.now) c.args.sending (g.P.Kept.Store.state c.args.store.now.store).disk c.in_ok-packets.packets.items c.in_ok-packets.ensures))

pub returns-in_err-packets-clause-stopped : goal.returns-in_err-packets-clause-stopped
returns-in_err-packets-clause-stopped g c = grind (arith, err_from_is_err_and, stops_none)

pub drop_made-requires : goal.drop_made-requires
drop_made-requires g c κs = grind (arith, can_still)

pub returns-in-Ok-drop_made-clause-stopped : goal.returns-in-Ok-drop_made-clause-stopped
returns-in-Ok-drop_made-clause-stopped g c =
    let Own = g.P.Paths.OwnPaths.is_own c.args.paths.now in
    let to = c.args.sending in
    let s0 = g.P.Kept.Store.state c.args.store.now.store in
    let s1 = g.P.Kept.Store.state c.pass_on.new.store.store in
    let staged = subst (λ (l : List LinkPacket). HasStaged Own to (IsPartOf to s0 s1) s0 s1 l) (sym c.deref.ensures.value) c.pass_on.ensures.staged in
    stops_dropped Own to s0 s1 (g.P.Kept.Store.state c.drop_made.new.store) c.deref.result.now c.stopped.result c.drop_made.result staged c.drop_made.ensures.used c.drop_made.ensures.gone (λ is. c.in-Ok-drop_made.is)

pub returns-in-Ok-drop_made-clause-taken : goal.returns-in-Ok-drop_made-clause-taken
returns-in-Ok-drop_made-clause-taken g c = λ honest is base kept.
    let staged = c.pass_on.ensures.staged in
    let run = (c.drop_made.ensures.used staged.sent (rw c.deref.ensures.value staged.counted)).changes.honest in
    c.pass_on.ensures.taken (run honest) (let taken = publish_stop_taken c.in-Err.stop c.stopped.result c.stopped.ensures (cc is) in cc (c.in-Err.is, taken)) base kept

pub returns-in-Ok-drop_made-clause-cause : goal.returns-in-Ok-drop_made-clause-cause
returns-in-Ok-drop_made-clause-cause g c =
    let s0 = g.P.Kept.Store.state c.args.store.now.store in
    let s1 = g.P.Kept.Store.state c.pass_on.new.store.store in
    let s2 = g.P.Kept.Store.state c.drop_made.new.store in
    let f0 = g.P.Kept.Store.failures c.args.store.now.store in
    let f1 = g.P.Kept.Store.failures c.pass_on.new.store.store in
    let f2 = g.P.Kept.Store.failures c.drop_made.new.store in
    let staged = c.pass_on.ensures.staged in
    let run = (c.drop_made.ensures.used staged.sent (rw c.deref.ensures.value staged.counted)).changes.honest in
    grind (arith, publish_stop_cause)

pub returns-clause-stopped : goal.returns-clause-stopped
returns-clause-stopped g c =
    let Own = g.P.Paths.OwnPaths.is_own c.args.paths.now in
    let to = c.args.sending in
    let s0 = g.P.Kept.Store.state c.args.store.now.store in
    let s1 = g.P.Kept.Store.state c.pass_on.new.store.store in
    let staged = subst (λ (l : List LinkPacket). HasStaged Own to (IsPartOf to s0 s1) s0 s1 l) (sym c.deref.ensures.value) c.pass_on.ensures.staged in
    stops_dropped Own to s0 s1 (g.P.Kept.Store.state c.drop_made.new.store) c.deref.result.now (Staging c.in-Err-drop_made.left) c.drop_made.result staged c.drop_made.ensures.used c.drop_made.ensures.gone (λ is. absurd is)
