use Rattle.std.proofs.Common.{ap, ◌+◌, length, ◌∙◌, arith}
use Rattle.std.proofs.lemmas.List.{drop_all, take_rest}
use Rattle.echo_text.specs.Lines.{lines}
use Rattle.echo_text.proofs.TextLines.{lines_with_first, split_found, split_whole}
use Rattle.echo_text.proofs.lines.split_line.Goals as goal

pub returns-in-Some-clause-first : goal.returns-in-Some-clause-first
returns-in-Some-clause-first c = (split_found c.args.text.now c.in-Some.end c.in-Some.ensures).first_is

pub returns-in-Some-clause-later : goal.returns-in-Some-clause-later
returns-in-Some-clause-later c =
    ap lines (take_rest c.args.text.now (c.in-Some.end + 1)) ∙ (split_found c.args.text.now c.in-Some.end c.in-Some.ensures).later_is

pub returns-in-None-clause-first : goal.returns-in-None-clause-first
returns-in-None-clause-first c = (split_whole c.args.text.now c.in-None.ensures).first_is

pub returns-in-None-clause-later : goal.returns-in-None-clause-later
returns-in-None-clause-later c =
    ap lines (take_rest c.args.text.now (length c.args.text.now) ∙ drop_all (length c.args.text.now) c.args.text.now (omega arith))
    ∙ (split_whole c.args.text.now c.in-None.ensures).later_is

pub returns-in-Some-clause-both : goal.returns-in-Some-clause-both
returns-in-Some-clause-both c = λ some.
    let parts = split_found c.args.text.now c.in-Some.end c.in-Some.ensures in
    lines_with_first c.args.text.now _ _ some (record { first_is = parts.first_is; later_is = ap lines (take_rest c.args.text.now (c.in-Some.end + 1)) ∙ parts.later_is })

pub returns-in-None-clause-both : goal.returns-in-None-clause-both
returns-in-None-clause-both = grind (arith, split_whole, lines_with_first, take_rest, drop_all)
