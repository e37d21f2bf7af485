use Rattle.std.proofs.Common.{ap, sym, ◌∙◌}
use Rattle.std.specs.Option.{option_or}
use Rattle.echo_text.specs.{Lines.lines, Echo.reply_of}
use Rattle.echo_text.proofs.KeptLines.{reply_of_parts}
use Rattle.echo_text.proofs.kept.KeptView.reply.Goals as goal

pub returns-in-Some : goal.returns-in-Some
unfolding reply_of
returns-in-Some c =
    sym
    (ap reply_of (sym c.self.view_is) ∙ reply_of_parts (lines c.self.inside.body.now) (lines c.self.inside.tail.now)
    ∙ ap (λ o. option_or o (reply_of (lines c.self.inside.tail.now))) (sym c.in-Some.ensures))

pub returns-in-None : goal.returns-in-None
unfolding reply_of
returns-in-None c =
    c.first_id-in-None.ensures
    ∙ sym
    (ap reply_of (sym c.self.view_is) ∙ reply_of_parts (lines c.self.inside.body.now) (lines c.self.inside.tail.now)
    ∙ ap (λ o. option_or o (reply_of (lines c.self.inside.tail.now))) (sym c.in-None.ensures))
