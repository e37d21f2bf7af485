use Rattle.std.proofs.Common.{◌≡◌, true, take}
use Rattle.std.specs.List.{list_all}
use Rattle.indexmap.specs.IndexMap.{values}
use Rattle.echo_filed.specs.Stored.{is_short_enough}
use Rattle.base_file.specs.BaseFile.{stored_from}
use Rattle.base_file.proofs.base.saving.are_short_enough.Given as goal

abbrev pub invariant-messages : goal.invariant-messages
invariant-messages g l = list_all is_short_enough (stored_from l.cursor 0 (take l.i (values l.entries))) ≡ true
