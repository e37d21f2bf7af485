use Rattle.{std.proofs.Common.{◌≡◌, filter, take}, cmd_suppose.specs.Leaving.stays}
use Rattle.cmd_suppose.proofs.leaving.staying.Given as goal

abbrev pub invariant-all : goal.invariant-all
invariant-all l = l.left.items ≡ filter (stays l.out) (take l.address-index l.all)
