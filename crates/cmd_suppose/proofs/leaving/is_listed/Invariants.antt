-- No area so far lists the address.
use Rattle.{std.{proofs.Common.{◌≡◌, false, take}, specs.List.list_any}, echo_links.specs.Links.is_link}
use Rattle.cmd_suppose.proofs.leaving.is_listed.Given as goal

abbrev pub invariant-areas : goal.invariant-areas
invariant-areas l = list_any (λ area. is_link l.file area.tag l.address) (take l.k l.file.areas) ≡ false
