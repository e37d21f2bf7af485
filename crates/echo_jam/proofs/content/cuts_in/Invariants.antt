use Rattle.std.{proofs.Common.{◌≡◌, ◌+◌, ℕ, List, length}, specs.List.fold}
use Rattle.echo_text.specs.Lines.{lines}
use Rattle.echo_jam.specs.Fields.{content_cut, content_of, cuts_in}
use Rattle.echo_jam.proofs.content.cuts_in.Given as goal

abbrev pub invariant-lines : goal.invariant-lines
invariant-lines l = fold (λ (n : ℕ) (line : List ℕ). n + content_cut (content_of line)) l.count (lines l.rest) ≡ cuts_in (lines l.text)

abbrev pub decreases-lines : goal.decreases-lines
decreases-lines l = length l.rest
