use Rattle.{std.proofs.Common.arith, base_store.proofs.Digests.of_key}
use Rattle.station_bases.proofs.entries.Entries.file.Goals as goal

pub returns-clause-held : goal.returns-clause-held
returns-clause-held c = grind (arith, of_key)
