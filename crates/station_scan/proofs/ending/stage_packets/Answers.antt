use Rattle.disk_atomic.{specs.Outgoing.IsAtStaging, proofs.Changes.then_only}
use Rattle.station_scan.proofs.ending.stage_packets.Goals as goal

pub returns-in-Ok-drop_staging-clause-changes : goal.returns-in-Ok-drop_staging-clause-changes
returns-in-Ok-drop_staging-clause-changes g c =
    let batch = c.args.batch in
    then_only (IsAtStaging batch.packets.now batch.trial.now) (g.D.Disk.state c.args.disk.now) (g.D.Disk.state c.end_packets.new.disk) (g.D.Disk.state c.drop_staging.new.disk) c.end_packets.ensures.changes c.drop_staging.ensures.changes

pub returns-in-Err-drop_staging-clause-changes : goal.returns-in-Err-drop_staging-clause-changes
returns-in-Err-drop_staging-clause-changes g c =
    let batch = c.args.batch in
    then_only (IsAtStaging batch.packets.now batch.trial.now) (g.D.Disk.state c.args.disk.now) (g.D.Disk.state c.end_packets.new.disk) (g.D.Disk.state c.drop_staging.new.disk) c.end_packets.ensures.changes c.drop_staging.ensures.changes
