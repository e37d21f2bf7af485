use Rattle.std.{proofs.{Common.{◌≡◌, ◌≢◌, ℕ, List, get_or, true, arith}, lemmas.{List.Elements.Contains-get_or, Result.IfOk-weaker}}, specs.Prelude.None}
use Rattle.{disk_io.specs.Disk.IsIn, disk_atomic.{specs.Outgoing.{IsAtStaging, staged_in}, proofs.{Changes.{only_nothing, then_only}, Whole.on_ok_any}}}
use Rattle.station_scan.{specs.Publishing.AreStaged, proofs.{Looked.same_seen, Staged.{path_off, staged_now, synced, tried_quiet}}}
use Rattle.station_scan.proofs.staging.end_staging.Goals as goal

pub sync_packets-requires : goal.sync_packets-requires
sync_packets-requires g c honest k z lt = (c.requires.opened.grow k z lt).there

pub try_first-requires-clause-staged : goal.try_first-requires-clause-staged
try_first-requires-clause-staged g c =
    synced c.args.outbound.now c.args.packets.now c.requires.placed (g.D.Disk.state c.args.disk.now) (g.D.Disk.state c.sync_packets.new.disk) c.requires.opened c.sync_packets.ensures.quiet c.in_ok-sync_packets.ensures.flushed

pub try_first-requires-clause-trial : goal.try_first-requires-clause-trial
try_first-requires-clause-trial g c = (c.requires.trial, c.sync_packets.ensures.quiet.named c.args.trial.now (λ h. h) (c.requires.opened.named c.args.trial.now c.requires.trial.inside))

pub returns-in_err-sync_packets-clause-changes : goal.returns-in_err-sync_packets-clause-changes
returns-in_err-sync_packets-clause-changes g c =
    only_nothing (IsAtStaging c.args.packets.now c.args.trial.now) (g.D.Disk.state c.args.disk.now) (g.D.Disk.state c.sync_packets.new.disk) c.sync_packets.ensures.quiet

pub returns-clause-changes : goal.returns-clause-changes
returns-clause-changes g c = grind (arith, then_only, only_nothing)

pub returns-clause-tried : goal.returns-clause-tried
returns-clause-tried g c = grind (arith, IfOk-weaker, tried_quiet)

pub returns-clause-same : goal.returns-clause-same
returns-clause-same g c = grind (arith, on_ok_any, same_seen, staged_now)

pub returns-clause-staged : goal.returns-clause-staged
returns-clause-staged g c =
    let folder = c.args.outbound.now in
    let packets = c.args.packets.now in
    let trial = c.args.trial.now in
    let d1 = g.D.Disk.state c.sync_packets.new.disk in
    let e = g.D.Disk.state c.try_first.new.disk in
    let run = c.try_first.ensures.changes in
    let quiet = c.sync_packets.ensures.quiet in
    let off = path_off folder trial packets c.requires.placed c.requires.trial in
    let now = staged_now (staged_in d1.seen) packets e c.try_first.ensures.staged in
    IfOk-weaker c.try_first.result (λ b. b ≡ true → (m : List ℕ) → IsIn folder m → m ≢ trial → e.seen m ≡ None → e.is_flushed m) (λ b. b ≡ true → AreStaged packets e)
    (grind (arith, get_or, Contains-get_or)) c.try_first.ensures.gone
