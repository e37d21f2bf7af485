use Rattle.{std.specs.Option.option_copied, cmd_check.proofs.AllAreas.headline_of_all}
use Rattle.cmd_check.proofs.checking_all.check_all.Goals as goal

pub returns-clause-headline : goal.returns-clause-headline
returns-clause-headline g c =
    headline_of_all (option_copied c.args.besides.nodelist) c.args.besides.more c.args.files.now c.args.stopped _ _ c.check_areas.result c.check_areas.ensures
