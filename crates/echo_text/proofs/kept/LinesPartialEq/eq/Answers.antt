use Rattle.std.proofs.Common.{ap, ◌∙◌}
use Rattle.std.specs.{Str.bytes_eq, Cmp.Lexicographic.pointwise}
use Rattle.echo_text.specs.Lines.{lines}
use Rattle.echo_text.proofs.EndedLines.{same_lines}
use Rattle.echo_text.proofs.kept.LinesPartialEq.eq.Goals as goal

pub returns : goal.returns
returns c =
    c.eq.ensures
    ∙ same_lines c.self.inside.text c.other.inside.text c.self.invariant c.other.invariant
    ∙ ap (λ ls. pointwise bytes_eq ls (lines c.other.inside.text)) c.self.view_is
    ∙ ap (pointwise bytes_eq c.args.self.now) c.other.view_is
