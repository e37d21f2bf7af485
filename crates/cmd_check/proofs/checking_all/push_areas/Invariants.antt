-- The lines of the areas so far are added.
use Rattle.{std.{proofs.Common.{◌≤◌, map, take}, specs.Option.option_copied}, cmd_print.specs.Pushed.Pushes, cmd_check.specs.CheckingAll.AreAreasChecked}
use Rattle.cmd_check.proofs.checking_all.push_areas.Given as goal

abbrev pub invariant-tags : goal.invariant-tags
invariant-tags l =
    Pushes (AreAreasChecked l.links (option_copied l.fn.list) l.fn.more (map (λ tag. tag.items) (take l.tag-index l.tags)) l.noes) l.initial.lines.items l.lines.items
    × (l.noes ≤ l.tag-index)
