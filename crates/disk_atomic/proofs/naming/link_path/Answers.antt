use Rattle.disk_atomic.proofs.Named.{link_gives}
use Rattle.disk_atomic.proofs.naming.link_path.Goals as goal

pub returns-clause-gives : goal.returns-clause-gives
returns-clause-gives g c =
    link_gives c.args.path.now c.args.staging.now c.requires.other (g.D.Disk.state c.args.disk.now) (g.D.Disk.state c.link.new.self) c.requires.staging_named c.requires.durable c.requires.path_named c.link.ensures.changes c.link.ensures.over
