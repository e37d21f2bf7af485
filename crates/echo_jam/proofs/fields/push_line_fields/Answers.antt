use Rattle.std.{proofs.{Common.{ap, length, sym, ◌++◌, ◌∙◌}, lemmas.{Bool.eqb-true, List.append-nil}}, specs.List.flat_map}
use Rattle.echo_text.proofs.TextLines.{no_lines}
use Rattle.echo_jam.specs.Fields.{line_field}
use Rattle.echo_jam.proofs.fields.push_line_fields.Goals as goal

pub returns : goal.returns
returns c =
    let none = no_lines c.lines.rest.now (eqb-true (length c.lines.rest.now) 0 (sym c.is_empty.ensures ∙ c.lines-test.false)) in
    sym (append-nil c.lines.fields.items) ∙ ap (λ ls. c.lines.fields.items ++ flat_map line_field ls) (sym none) ∙ c.lines.invariant
