use Rattle.std.proofs.Common.{arith}
use Rattle.base_folder_store.proofs.Ahead.{part_empty}
use Rattle.base_folder_store.proofs.read_ahead.ReadAhead.new.Goals as goal

pub returns : goal.returns
returns c = λ file. part_empty file (record { from = 0; bytes = c.new.result }) (omega arith) c.new.ensures.items
