use Rattle.std.{proofs.{Common.{ℕ, ◌+◌, List, ap, length, sym, ◌∙◌}, lemmas.Bool.eqb-true}, specs.List.fold}
use Rattle.echo_text.proofs.TextLines.{no_lines}
use Rattle.echo_jam.specs.Fields.{content_cut, content_of}
use Rattle.echo_jam.proofs.content.cuts_in.Goals as goal

pub returns : goal.returns
returns c =
    let none = no_lines c.lines.rest.now (eqb-true (length c.lines.rest.now) 0 (sym c.is_empty.ensures ∙ c.lines-test.false)) in
    ap (fold (λ (n : ℕ) (line : List ℕ). n + content_cut (content_of line)) c.lines.count) (sym none) ∙ c.lines.invariant
