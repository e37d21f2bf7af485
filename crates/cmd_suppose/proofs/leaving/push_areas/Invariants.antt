use Rattle.{std.{proofs.Common.{◌≡◌, ◌++◌, take}, specs.List.flat_map}, cmd_suppose.specs.Leaving.area_left}
use Rattle.cmd_suppose.proofs.leaving.push_areas.Given as goal

abbrev pub invariant-areas : goal.invariant-areas
invariant-areas l = l.text.items ≡ l.initial.text.items ++ flat_map (area_left l.out l.file) (take l.k l.file.areas)
