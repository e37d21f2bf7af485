use Rattle.std.proofs.Common.{◌≡◌, take}
use Rattle.std.specs.List.{flat_map}
use Rattle.echo_filed.specs.Fields.{itself}
use Rattle.echo_filed.proofs.field.joined.Given as goal

abbrev pub invariant-parts : goal.invariant-parts
invariant-parts l = l.string.items ≡ flat_map itself (take l.part-index l.parts)
