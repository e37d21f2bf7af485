use Rattle.{std.proofs.Common.{◌≡◌, filter, map, take}, cmd_suppose.specs.Leaving.is_judged}
use Rattle.cmd_check.proofs.supposing.judged_of.Given as goal

abbrev pub invariant-all : goal.invariant-all
invariant-all l = l.tags.items ≡ filter (is_judged l.files l.out) (map (λ tag. tag.items) (take l.tag-index l.all))
