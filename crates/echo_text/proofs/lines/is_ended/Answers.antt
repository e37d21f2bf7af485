use Rattle.std.proofs.Common.{length, sym, ◌∙◌, refl, arith}
use Rattle.std.proofs.lemmas.Bool.{eqb-false, eqb-true}
use Rattle.echo_text.proofs.EndedLines.{ended_if_empty, ended_or_not}
use Rattle.echo_text.proofs.lines.is_ended.Goals as goal

pub returns-then-is_empty : goal.returns-then-is_empty
returns-then-is_empty c = ended_if_empty c.args.bytes.now (eqb-true (length c.args.bytes.now) 0 (sym c.is_empty.ensures ∙ c.if-is_empty.true))

pub returns : goal.returns
returns c =
    let some = eqb-false (length c.args.bytes.now) 0 (sym c.is_empty.ensures ∙ c.if-is_empty.false) in
    ended_or_not c.args.bytes.now _ (omega arith) refl
