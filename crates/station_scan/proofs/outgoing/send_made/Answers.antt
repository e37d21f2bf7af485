use Rattle.std.{proofs.Common.{◌≡◌, Err, Ok, Result, inl, inr, refl, subst, ℕ, arith}, specs.{Prelude.{List, None, OnOk}, List.flat_map}}
use Rattle.{disk_io.specs.{Device.Failed, declared.disk_error.DiskError.DiskError}, base_store.{specs.Store.all_scanned, proofs.Runs.quiet_disk}}
use Rattle.{cmd_status.specs.Devices.output_of, cmd_store.specs.{PacketLines.counted_line, Answered.{AnswersOn, AreLines, RefusesNone}, Stops.store_answer}}
use Rattle.{cmd_store.specs.declared.command_error.CommandError.CommandError, echo_steps.specs.Exports.OutgoingMessage as Sent}
use Rattle.station_scan.specs.{Passing.{AreCounted, IsAllOf, IsPartOf, IsStagingTo, counts_in}, declared.scan_error.ScanError.TheVariants.{Command, Staying}}
use Rattle.station_scan.proofs.Passes.{can_still, gone_or_same, passed_part, staged_keeps, staged_more}
use Rattle.station_scan.proofs.Reports.{lines_answer, no_damage, scans_sent, scans_unprinted, staying_why}
use Rattle.station_scan.proofs.outgoing.send_made.Goals as goal

pub drop_made-requires : goal.drop_made-requires
drop_made-requires g c κs = let making = c.requires.making in ((refl, tt), (c.requires.ready, (making.0, making.1.counted, making.1.fit)))

pub returns-in-Ok-clause-sends : goal.returns-in-Ok-clause-sends
returns-in-Ok-clause-sends g c = λ before passed honest base moved.
    let to = c.args.sending in
    let s0 = g.P.Kept.Store.state before in
    let s2 = g.P.Kept.Store.state c.publish_made-done.new.store in
    let did = c.publish_made-done.ensures in
    let honest1 = did.keeps.keeps.honest honest in
    let out = output_of g.W.Write.contents g.W.Sink.failures g.W.Sink.holds c.args.out.now in
    let now = output_of g.W.Write.contents g.W.Sink.failures g.W.Sink.holds c.print_made.new.out in
    let failed = Failed (g.P.Kept.Store.failures c.args.store.now) (g.P.Kept.Store.failures c.publish_made-done.new.store) in
    let printed = subst (λ (r : Result (Unit {0}) CommandError). AnswersOn (AreLines (flat_map counted_line (counts_in c.args.packets.now))) RefusesNone out now r) c.in-Ok.is c.print_made.ensures.answers in
    let answer = lines_answer to base passed.sent c.args.packets.now out now (Ok tt) c.requires.ready.stamp moved.at passed.counted (passed.part.whole honest1 (all_scanned base) moved.keeps) printed in
    grind (arith, scans_sent)

pub returns-in-Ok-drop_made-clause-sends : goal.returns-in-Ok-drop_made-clause-sends
returns-in-Ok-drop_made-clause-sends g c = λ before passed honest base moved.
    let Own = g.P.Paths.OwnPaths.is_own c.args.paths.now in
    let to = c.args.sending in
    let links = c.args.packets.now in
    let s0 = g.P.Kept.Store.state before in
    let s1 = g.P.Kept.Store.state c.args.store.now in
    let s2 = g.P.Kept.Store.state c.drop_made.new.store in
    let drop = c.drop_made.ensures.used passed.sent passed.counted in
    let run = drop.changes.honest in
    let out = output_of g.W.Write.contents g.W.Sink.failures g.W.Sink.holds c.args.out.now in
    let now = output_of g.W.Write.contents g.W.Sink.failures g.W.Sink.holds c.print_made.new.out in
    let stop = c.in-Err.stop in
    let printed = subst (λ (r : Result (Unit {0}) CommandError). AnswersOn (AreLines (flat_map counted_line (counts_in links))) RefusesNone out now r) c.in-Err.is c.print_made.ensures.answers in
    let met = subst (λ (r : Result (Unit {0}) CommandError). store_answer r ≡ Ok tt) c.in-Err.is c.print_made.ensures.met in
    let answer = lines_answer to base passed.sent links out now (Err stop) c.requires.ready.stamp moved.at passed.counted (passed.part.whole (run honest) (all_scanned base) moved.keeps) printed in
    let gone = subst (λ (r : Result (Unit {0}) DiskError). OnOk r ((sent : List Sent) → AreCounted to sent links → (m : List ℕ) → IsStagingTo to sent m → s2.disk.seen m ≡ None)) c.in-Ok-drop_made.is (c.drop_made.ensures.gone honest) in
    scans_unprinted g.D.Disk.state Own to (Failed (g.P.Kept.Store.failures c.args.store.now) (g.P.Kept.Store.failures c.drop_made.new.store)) s0 s2 links
    (staged_more Own to (IsAllOf to s0 s1) (IsPartOf to s0 s2) s0 s1 s2 links passed (λ part. passed_part Own to s0 s1 s2 links passed run) drop) base moved (can_still Own (IsStagingTo to passed.sent) to s1 s2 drop c.requires.ready) honest s2 (quiet_disk s2.disk) out now
    stop (Err (Command stop)) answer (inl (refl, gone_or_same Own to (IsAllOf to s0 s1) s0 s1 s2 links passed drop (gone passed.sent passed.counted))) (no_damage stop met)

pub returns-in-Err-drop_made-clause-sends : goal.returns-in-Err-drop_made-clause-sends
returns-in-Err-drop_made-clause-sends g c = λ before passed honest base moved.
    let Own = g.P.Paths.OwnPaths.is_own c.args.paths.now in
    let to = c.args.sending in
    let links = c.args.packets.now in
    let s0 = g.P.Kept.Store.state before in
    let s1 = g.P.Kept.Store.state c.args.store.now in
    let s2 = g.P.Kept.Store.state c.drop_made.new.store in
    let drop = c.drop_made.ensures.used passed.sent passed.counted in
    let run = drop.changes.honest in
    let out = output_of g.W.Write.contents g.W.Sink.failures g.W.Sink.holds c.args.out.now in
    let now = output_of g.W.Write.contents g.W.Sink.failures g.W.Sink.holds c.print_made.new.out in
    let stop = c.in-Err.stop in
    let printed = subst (λ (r : Result (Unit {0}) CommandError). AnswersOn (AreLines (flat_map counted_line (counts_in links))) RefusesNone out now r) c.in-Err.is c.print_made.ensures.answers in
    let answer = lines_answer to base passed.sent links out now (Err stop) c.requires.ready.stamp moved.at passed.counted (passed.part.whole (run honest) (all_scanned base) moved.keeps) printed in
    let left = c.in-Err-drop_made.left in
    let failed = Failed (g.P.Kept.Store.failures c.args.store.now) (g.P.Kept.Store.failures c.drop_made.new.store) in
    scans_unprinted g.D.Disk.state Own to failed s0 s2 links (staged_more Own to (IsAllOf to s0 s1) (IsPartOf to s0 s2) s0 s1 s2 links passed (λ part. passed_part Own to s0 s1 s2 links passed run) drop) base moved
    (can_still Own (IsStagingTo to passed.sent) to s1 s2 drop c.requires.ready) honest s2 (quiet_disk s2.disk) out now stop (Err (Staying left)) answer (inr (left, refl, staying_why failed left (λ e. c.drop_made.ensures.cause.failed (cc (c.in-Err-drop_made.is, e))))) (λ e. cc e)

pub returns-in-Ok-drop_made-clause-keeps : goal.returns-in-Ok-drop_made-clause-keeps
returns-in-Ok-drop_made-clause-keeps g c =
    let making = c.requires.making in
    staged_keeps (g.P.Paths.OwnPaths.is_own c.args.paths.now) c.args.sending c.requires.ready.routes making.0 making.1.fit (g.P.Kept.Store.state c.args.store.now) (g.P.Kept.Store.state c.drop_made.new.store)
    (c.drop_made.ensures.used making.0 making.1.counted)

pub returns-in-Err-drop_made-clause-keeps : goal.returns-in-Err-drop_made-clause-keeps
returns-in-Err-drop_made-clause-keeps g c =
    let making = c.requires.making in
    staged_keeps (g.P.Paths.OwnPaths.is_own c.args.paths.now) c.args.sending c.requires.ready.routes making.0 making.1.fit (g.P.Kept.Store.state c.args.store.now) (g.P.Kept.Store.state c.drop_made.new.store)
    (c.drop_made.ensures.used making.0 making.1.counted)
