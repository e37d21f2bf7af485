use Rattle.std.proofs.{Common.ap, Common.length, Common.sym, Common.◌∙◌, lemmas.Bool.eqb-true}
use Rattle.echo_text.{specs.Echo.first_after, proofs.TextLines.no_lines}
use Rattle.echo_stored.proofs.reading.first_value.Goals as goal

pub returns : goal.returns
returns c =
    let none = no_lines c.lines.rest.now (eqb-true (length c.lines.rest.now) 0 (sym c.is_empty.ensures ∙ c.lines-test.false)) in
    sym (ap (first_after c.args.word.now) none) ∙ c.lines.invariant
