use Rattle.{std.{proofs.Common.{◌≡◌, ◌++◌, codes, length}, specs.List.flat_map}, echo_text.specs.Lines.lines, echo_charset.specs.Escaped.escaped_line}
use Rattle.cmd_print.proofs.base_text.push_lines.Given as goal

abbrev pub invariant-pieces : goal.invariant-pieces
invariant-pieces l =
    l.lines.items ++ flat_map (λ line. escaped_line (codes "line") line) (lines l.rest)
    ≡ l.initial.lines.items ++ flat_map (λ line. escaped_line (codes "line") line) (lines l.text)

abbrev pub decreases-pieces : goal.decreases-pieces
decreases-pieces l = length l.rest
