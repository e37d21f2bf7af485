use Rattle.{disk_atomic.{specs.Outgoing.IsStagingOne, proofs.Changes.then_only}, station_scan.proofs.Written.begun_if}
use Rattle.station_scan.proofs.growing.begin_first.Goals as goal

pub write_headers-requires-clause-begun : goal.write_headers-requires-clause-begun
write_headers-requires-clause-begun g c =
    let did = c.in_ok-make_packets.ensures in
    let free = c.if-not-branch.false in
    begun_if c.args.batch c.requires (g.D.Disk.state c.make_packets.new.disk) (did.made free) (did.named free) (λ honest. did.free honest free)

pub returns-in_err-write_headers-clause-changes : goal.returns-in_err-write_headers-clause-changes
returns-in_err-write_headers-clause-changes g c =
    then_only (IsStagingOne c.args.batch.packets.now) (g.D.Disk.state c.args.disk.now) (g.D.Disk.state c.make_packets.new.disk) (g.D.Disk.state c.write_headers.new.disk) c.make_packets.ensures.changes c.write_headers.ensures.changes

pub returns-clause-changes : goal.returns-clause-changes
returns-clause-changes g c =
    then_only (IsStagingOne c.args.batch.packets.now) (g.D.Disk.state c.args.disk.now) (g.D.Disk.state c.make_packets.new.disk) (g.D.Disk.state c.write_headers.new.disk) c.make_packets.ensures.changes c.write_headers.ensures.changes
