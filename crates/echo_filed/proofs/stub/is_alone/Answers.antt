use Rattle.std.proofs.{Common.length, Common.sym, Common.◌∙◌, Common.arith, lemmas.Bool.eqb-false, lemmas.Bool.eqb-true, Math.Bool.and-true}
use Rattle.echo_text.specs.Lines.{msgid_word}
use Rattle.echo_filed.specs.Filed.{id_line}
use Rattle.echo_filed.proofs.LinesOfIds.{more_alone, none_alone, one_alone}
use Rattle.echo_filed.proofs.stub.is_alone.Goals as goal

pub returns-then-is_empty : goal.returns-then-is_empty
returns-then-is_empty c = grind (arith, eqb-true, none_alone)

pub returns-then-not-is_empty : goal.returns-then-not-is_empty
returns-then-not-is_empty c =
    let some = eqb-false (length c.as_text-text.result.now) 0 (sym c.is_empty.ensures ∙ c.if-is_empty.false) in
    let more = eqb-false (length c.split_line.result.1.now) 0 (sym c.is_empty-2.ensures ∙ c.if-not-is_empty.true) in
    sym
    (more_alone c.split_line.result.0.now c.split_line.result.1.now (id_line msgid_word c.args.id.now) c.args.kept.now
    (sym c.as_text-text.ensures.lines ∙ c.split_line.ensures.both (omega arith)) (omega arith))

pub returns : goal.returns
returns c =
    let some = eqb-false (length c.as_text-text.result.now) 0 (sym c.is_empty.ensures ∙ c.if-is_empty.false) in
    let none = eqb-true (length c.split_line.result.1.now) 0 (sym c.is_empty-2.ensures ∙ c.if-not-is_empty.false) in
    c.is_id_line.ensures
    ∙ sym
    (one_alone c.split_line.result.0.now c.split_line.result.1.now (id_line msgid_word c.args.id.now) c.args.kept.now
    (sym c.as_text-text.ensures.lines ∙ c.split_line.ensures.both (omega arith)) none
    ∙ and-true _)
