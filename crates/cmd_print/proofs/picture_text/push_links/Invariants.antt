use Rattle.{std.{proofs.Common.{◌≡◌, ◌++◌, take}, specs.List.flat_map}, cmd_print.specs.Pictured.link_line}
use Rattle.cmd_print.proofs.picture_text.push_links.Given as goal

abbrev pub invariant-links : goal.invariant-links
invariant-links l = l.lines.items ≡ l.initial.lines.items ++ flat_map (link_line l.crossings) (take l.link-index l.links)
