use Rattle.{std.{proofs.Common.{◌≡◌, ◌++◌, take}, specs.List.flat_map}, cmd_suppose.specs.Assuming.link_word}
use Rattle.cmd_suppose.proofs.assuming.push_links.Given as goal

abbrev pub invariant-links : goal.invariant-links
invariant-links l = l.text.items ≡ l.initial.text.items ++ flat_map link_word (take l.link-index l.links)
