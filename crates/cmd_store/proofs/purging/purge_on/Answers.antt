use Rattle.cmd_store.proofs.{Commits.may_after, Purges.purge_then}
use Rattle.cmd_store.proofs.purging.purge_on.Goals as goal

pub returns-clause-met : goal.returns-clause-met
returns-clause-met g c = may_after _ _ _ c.leave.result c.purge.ensures.either c.in_ok-count.ensures.ready c.in_ok-count.ensures.committed c.leave.ensures.met

pub returns-clause-crash : goal.returns-clause-crash
returns-clause-crash g c = purge_then c.args.range.now _ _ _ c.purge.ensures.either c.in_ok-count.ensures.purged c.in_ok-count.ensures.committed c.leave.ensures.either
