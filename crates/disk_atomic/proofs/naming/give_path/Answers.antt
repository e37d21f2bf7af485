use Rattle.std.proofs.{Common.◌∙◌, Common.arith, lemmas.Result.IfOk-weaker}
use Rattle.disk_atomic.proofs.{Named.gives_quiet, Whole.none_is_not_there, Whole.on_ok_any, Whole.there_unless}
use Rattle.disk_atomic.proofs.naming.give_path.Goals as goal

pub has_both-requires-clause-staging_there : goal.has_both-requires-clause-staging_there
has_both-requires-clause-staging_there g c honest = grind arith

pub has_both-requires-clause-path_there : goal.has_both-requires-clause-path_there
has_both-requires-clause-path_there g c honest = grind (arith, there_unless)

pub returns-clause-gives : goal.returns-clause-gives
returns-clause-gives g c =
    gives_quiet (g.D.Disk.state c.args.disk.now) (g.D.Disk.state c.link_path.new.disk) (g.D.Disk.state c.has_both.new.disk) c.args.path.now c.args.staging.now c.link_path.ensures.gives c.has_both.ensures.quiet

pub returns-clause-given : goal.returns-clause-given
returns-clause-given g c honest = grind (arith, IfOk-weaker)

pub returns-clause-taken : goal.returns-clause-taken
returns-clause-taken g c honest = grind (arith, IfOk-weaker, there_unless)
