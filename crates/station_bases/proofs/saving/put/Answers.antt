use Rattle.{std.proofs.Common.arith, station.proofs.StagingPaths.staging_in}
use Rattle.station_bases.proofs.saving.put.Goals as goal

pub replace_file-requires-clause-staging_in : goal.replace_file-requires-clause-staging_in
replace_file-requires-clause-staging_in g c = grind (arith, staging_in)
