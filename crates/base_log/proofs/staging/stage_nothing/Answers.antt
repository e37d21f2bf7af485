use Rattle.base_log.proofs.Rested.{rest_staged}
use Rattle.base_log.proofs.staging.stage_nothing.Goals as goal

pub returns-clause-staged : goal.returns-clause-staged
returns-clause-staged g c honest = rest_staged (g.D.Disk.state c.args._disk.now) c.args._folder.now c.args.end c.args.cursor c.args.mark (c.requires honest)
