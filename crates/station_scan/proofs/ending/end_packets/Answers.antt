use Rattle.{std.proofs.{Common.{arith, inl}, lemmas.Result.on_ok_weaker}, disk_atomic.specs.Outgoing.{IsAtStaging, IsStagingOne}}
use Rattle.{disk_atomic.proofs.Changes.{then_only, wider}, station_scan.proofs.Written.{ok_gives, tried_written}}
use Rattle.station_scan.proofs.ending.end_packets.Goals as goal

pub returns-in_err-append_open-clause-changes : goal.returns-in_err-append_open-clause-changes
returns-in_err-append_open-clause-changes g c =
    let batch = c.args.batch in
    wider (IsStagingOne batch.packets.now) (IsAtStaging batch.packets.now batch.trial.now) (g.D.Disk.state c.args.disk.now) (g.D.Disk.state c.append_open.new.disk) (λ m is. inl is) c.append_open.ensures.changes

pub returns-clause-changes : goal.returns-clause-changes
returns-clause-changes g c =
    let batch = c.args.batch in
    let at = IsAtStaging batch.packets.now batch.trial.now in
    let d0 = g.D.Disk.state c.args.disk.now in
    let d1 = g.D.Disk.state c.append_open.new.disk in
    then_only at d0 d1 (g.D.Disk.state c.end_staging.new.disk) (wider (IsStagingOne batch.packets.now) at d0 d1 (λ m is. inl is) c.append_open.ensures.changes) c.end_staging.ensures.changes

pub returns-clause-ended : goal.returns-clause-ended
returns-clause-ended g c = grind (arith, on_ok_weaker)

pub returns-clause-tried : goal.returns-clause-tried
returns-clause-tried g c = grind (arith, ok_gives, tried_written)
