use Rattle.std.proofs.Common.{arith}
use Rattle.indexmap.proofs.CallerLemmas.{keys-with_value_at}
use Rattle.base_file.proofs.Purges.{values_written}
use Rattle.base_file.proofs.purging.put_stub.Goals as goal

pub returns-clause-keys : goal.returns-clause-keys
returns-clause-keys g c = keys-with_value_at c.args.entries.now c.args.i c.leave.new.message

pub returns-clause-values : goal.returns-clause-values
returns-clause-values g c = grind (arith, values_written)
