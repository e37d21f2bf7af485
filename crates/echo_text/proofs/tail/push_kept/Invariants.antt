use Rattle.std.proofs.Common.{◌≡◌, ◌++◌, length}
use Rattle.std.specs.List.{filter, flat_map}
use Rattle.echo_text.specs.{Lines.lines, Tail.is_kept_control, Echo.ended}
use Rattle.echo_text.proofs.tail.push_kept.Given as goal

abbrev pub invariant-lines : goal.invariant-lines
invariant-lines l =
    l.text.items ++ flat_map ended (filter is_kept_control (lines l.rest))
    ≡ l.initial.text.items ++ flat_map ended (filter is_kept_control (lines l.tail))

abbrev pub decreases-lines : goal.decreases-lines
decreases-lines l = length l.rest
