use Rattle.std.proofs.Common.{ℕ, ◌∙◌, List, ap}
use Rattle.echo_text.specs.Lines.{later_lines, lines}
use Rattle.echo_jam.proofs.message.parts_of.Goals as goal

pub fields_of-requires : goal.fields_of-requires
fields_of-requires c = c.split_line.ensures.later ∙ ap (λ (t : List ℕ). later_lines (lines t)) (c.deref.ensures.value ∙ c.in_ok-text.ensures)

pub body_of-requires : goal.body_of-requires
body_of-requires c = c.split_line.ensures.later ∙ ap (λ (t : List ℕ). later_lines (lines t)) (c.deref.ensures.value ∙ c.in_ok-text.ensures)
