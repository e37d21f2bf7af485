use Rattle.std.proofs.Common.{◌≡◌, length, map, None, option_copied}
use Rattle.std.specs.List.{filter, last_or}
use Rattle.echo_text.specs.Lines.{after_feeds, begins, lines}
use Rattle.echo_text.proofs.found.last_with.Given as goal

abbrev pub invariant-lines : goal.invariant-lines
invariant-lines l =
    last_or (option_copied l.found) (map after_feeds (filter (begins l.word) (lines l.rest)))
    ≡ last_or None (map after_feeds (filter (begins l.word) (lines l.kept)))

abbrev pub decreases-lines : goal.decreases-lines
decreases-lines l = length l.rest
