use Rattle.std.{proofs.{Common.{ap, length, sym, ◌++◌, ◌∙◌}, lemmas.{Bool.eqb-true, List.append-nil}}, specs.List.flat_map}
use Rattle.echo_text.proofs.TextLines.{no_lines}
use Rattle.echo_stored.specs.StoredReading.{own_line}
use Rattle.echo_stored.proofs.reading.extract_body.Goals as goal

pub returns : goal.returns
returns c =
    let none = no_lines c.lines.rest.now (eqb-true (length c.lines.rest.now) 0 (sym c.is_empty.ensures ∙ c.lines-test.false)) in
    sym (append-nil c.lines.body.items) ∙ ap (λ ls. c.lines.body.items ++ flat_map own_line ls) (sym none) ∙ c.lines.invariant
