use Rattle.std.proofs.Common.{◌≡◌, length, map, None, option_copied}
use Rattle.std.specs.List.{filter, last_or}
use Rattle.echo_text.specs.Lines.{after_feeds, is_tear, lines}
use Rattle.echo_text.proofs.found.last_tear.Given as goal

abbrev pub invariant-lines : goal.invariant-lines
invariant-lines l =
    last_or (option_copied l.found) (map after_feeds (filter is_tear (lines l.rest)))
    ≡ last_or None (map after_feeds (filter is_tear (lines l.kept)))

abbrev pub decreases-lines : goal.decreases-lines
decreases-lines l = length l.rest
