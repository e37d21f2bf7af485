use Rattle.std.proofs.Common.{◌≡◌, length}
use Rattle.std.specs.List.{filter}
use Rattle.echo_text.specs.{Lines.lines, Tail.is_kept_control}
use Rattle.echo_text.proofs.line_slices.next_kept.Given as goal

abbrev pub invariant-lines : goal.invariant-lines
invariant-lines l = filter is_kept_control (lines l.rest) ≡ filter is_kept_control (lines l.tail)

abbrev pub decreases-lines : goal.decreases-lines
decreases-lines l = length l.rest
