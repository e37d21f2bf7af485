use Rattle.std.proofs.Common.{◌≡◌, take}
use Rattle.indexmap.specs.IndexMap.{values}
use Rattle.base_file.specs.Purging.{lines_left_in}
use Rattle.base_file.proofs.purging.lines_left.Given as goal

abbrev pub invariant-messages : goal.invariant-messages
invariant-messages g l = l.all.items ≡ lines_left_in l.range.area (take l.i (values l.entries))
