use Rattle.std.{proofs.{Common.{ap, codes, length, sym, ◌++◌, ◌∙◌}, lemmas.{Bool.eqb-true, List.append-nil}}, specs.List.flat_map}
use Rattle.{echo_text.proofs.TextLines.no_lines, echo_charset.specs.Escaped.escaped_line}
use Rattle.cmd_print.proofs.base_text.push_lines.Goals as goal

pub returns : goal.returns
returns c =
    let none = no_lines c.pieces.rest.now (eqb-true (length c.pieces.rest.now) 0 (sym c.is_empty.ensures ∙ c.pieces-test.false)) in
    sym (append-nil c.pieces.lines.items) ∙ ap (λ ls. c.pieces.lines.items ++ flat_map (λ line. escaped_line (codes "line") line) ls) (sym none) ∙ c.pieces.invariant
