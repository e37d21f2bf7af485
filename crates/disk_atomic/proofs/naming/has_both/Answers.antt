use Rattle.std.proofs.Common.{arith}
use Rattle.disk_io.proofs.Moments.{nothing_twice}
use Rattle.disk_atomic.proofs.naming.has_both.Goals as goal

pub sync-requires : goal.sync-requires
sync-requires g c honest = grind arith

pub returns-in_err-sync-clause-quiet : goal.returns-in_err-sync-clause-quiet
returns-in_err-sync-clause-quiet g c =
    nothing_twice (g.D.Disk.state c.args.disk.now) (g.D.Disk.state c.are_same.new.disk) (g.D.Disk.state c.sync.new.self) c.are_same.ensures.quiet c.sync.ensures.quiet

pub returns-clause-quiet : goal.returns-clause-quiet
returns-clause-quiet g c =
    nothing_twice (g.D.Disk.state c.args.disk.now) (g.D.Disk.state c.are_same.new.disk) (g.D.Disk.state c.sync.new.self) c.are_same.ensures.quiet c.sync.ensures.quiet

pub returns-clause-same : goal.returns-clause-same
returns-clause-same g c honest = grind arith
