use Rattle.{std.proofs.Common.arith, base_store.proofs.Runs.quiet_disk, station_bases.proofs.Reach.look_still}
use Rattle.station_bases.proofs.entries.Entries.find.Goals as goal

pub search-requires : goal.search-requires
search-requires g c = grind (arith, look_still, quiet_disk)
