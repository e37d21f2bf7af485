use Rattle.{std.specs.Option.option_copied, cmd_check.proofs.Judgements.headline_supposing}
use Rattle.cmd_check.proofs.supposing.check_supposing.Goals as goal

pub returns-clause-headline : goal.returns-clause-headline
returns-clause-headline g c =
    headline_supposing (option_copied c.args.besides.nodelist) c.args.besides.more (option_copied c.args.tag) c.args.files.now c.args.supposed.named.now c.args.supposed.missing
    c.args.supposed.without.now c.args.stopped _ _ c.check_given.result c.check_given.ensures
