-- The lines of the areas so far are added.
use Rattle.{std.{proofs.Common.{◌≤◌, List, take}, specs.{List.AllZip, Option.option_copied}}, echo_links.specs.Links.LinkFile}
use Rattle.{cmd_suppose.specs.Listings.IsListing, cmd_print.specs.Pushed.Pushes, cmd_check.specs.JudgedAreas.{AreAreasJudged, judged_net}}
use Rattle.cmd_check.proofs.supposed_areas.push_areas.Given as goal

abbrev pub invariant-areas : goal.invariant-areas
invariant-areas l =
    ((given : List LinkFile) → AllZip (IsListing given) l.tags l.listings →
    Pushes (AreAreasJudged (judged_net given l.net.whole.now l.net.left.now l.net.assumed.now l.net.out.now) (option_copied l.judging.list) l.judging.more l.judging.listed (take l.place l.tags) l.noes) l.initial.lines.items l.lines.items)
    × (l.noes ≤ l.place)
