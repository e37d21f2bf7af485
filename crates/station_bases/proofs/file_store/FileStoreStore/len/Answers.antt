use Rattle.{std.proofs.Common.arith, station_bases.proofs.FileLooks.counted_apart}
use Rattle.station_bases.proofs.file_store.FileStoreStore.len.Goals as goal

pub returns-in-Apart-clause-count : goal.returns-in-Apart-clause-count
returns-in-Apart-clause-count g c honest = grind (arith, counted_apart)
