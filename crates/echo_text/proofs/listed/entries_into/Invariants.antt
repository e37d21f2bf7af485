use Rattle.std.proofs.Common.{◌≡◌, ◌+◌, ◌++◌, length}
use Rattle.echo_text.specs.{Lines.lines, Tail.all_dropped, Tail.all_entries, Tail.lists_of}
use Rattle.echo_text.proofs.listed.entries_into.Given as goal

abbrev pub invariant-lines : goal.invariant-lines
invariant-lines l =
    (l.found.items ++ all_entries (lists_of l.word (lines l.rest)) ≡ all_entries (lists_of l.word (lines l.tail)))
    × (l.dropped + all_dropped (lists_of l.word (lines l.rest)) ≡ all_dropped (lists_of l.word (lines l.tail)))

abbrev pub decreases-lines : goal.decreases-lines
decreases-lines l = length l.rest
