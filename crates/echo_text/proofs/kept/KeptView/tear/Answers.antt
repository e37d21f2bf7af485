use Rattle.std.proofs.Common.{ap, sym, ◌∙◌}
use Rattle.echo_text.specs.{Lines.lines, Echo.tear_of}
use Rattle.echo_text.proofs.KeptLines.{tear_of_parts}
use Rattle.echo_text.proofs.kept.KeptView.tear.Goals as goal

pub returns : goal.returns
unfolding tear_of
returns c =
    c.last_tear.ensures ∙ sym (ap tear_of (sym c.self.view_is) ∙ tear_of_parts (lines c.self.inside.body.now) (lines c.self.inside.tail.now))
