use Rattle.std.proofs.Common.{◌≡◌, ◌++◌, take}
use Rattle.echo_filed.specs.Sets.{entry_set}
use Rattle.echo_steps.proofs.sets.entry_union.Given as goal

abbrev pub invariant-each : goal.invariant-each
invariant-each l = entry_set (l.all.items ++ l.rest) ≡ entry_set (l.entries ++ take l.one-index l.added)
