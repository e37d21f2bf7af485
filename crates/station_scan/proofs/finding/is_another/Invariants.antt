-- Those up to here have other paths.
use Rattle.{std.specs.List.AllWithin, station_scan.specs.Left.HaveOtherLeft}
use Rattle.station_scan.proofs.finding.is_another.Given as goal

abbrev pub invariant-others : goal.invariant-others
invariant-others l = AllWithin (HaveOtherLeft l.one) l.others 0 l.other-index
