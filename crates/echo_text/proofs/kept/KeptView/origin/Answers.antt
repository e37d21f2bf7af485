use Rattle.std.proofs.Common.{ap, sym, ◌∙◌}
use Rattle.echo_text.specs.{Lines.lines, Echo.origin_of}
use Rattle.echo_text.proofs.KeptLines.{origin_of_parts}
use Rattle.echo_text.proofs.kept.KeptView.origin.Goals as goal

pub returns : goal.returns
unfolding origin_of
returns c =
    c.last_with.ensures ∙ sym (ap origin_of (sym c.self.view_is) ∙ origin_of_parts (lines c.self.inside.body.now) (lines c.self.inside.tail.now))
