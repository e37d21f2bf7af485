use Rattle.{std.specs.Option.option_copied, cmd_check.proofs.Checks.headline}
use Rattle.cmd_check.proofs.checking.check.Goals as goal

pub returns-clause-headline : goal.returns-clause-headline
returns-clause-headline g c =
    headline (option_copied c.args.besides.nodelist) c.args.besides.more c.args.tag.now c.args.files.now c.args.stopped _ _ c.check_given.result c.check_given.ensures
