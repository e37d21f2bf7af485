use Rattle.{std.proofs.Common.arith, station.proofs.StagingPaths.staging_in}
use Rattle.station_bases.proofs.entry_saving.put_around.Goals as goal

pub replace_around-requires-clause-staging_in : goal.replace_around-requires-clause-staging_in
replace_around-requires-clause-staging_in g c = grind (arith, staging_in)
