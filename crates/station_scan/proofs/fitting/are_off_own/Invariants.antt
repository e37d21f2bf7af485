-- So are those up to here.
use Rattle.{std.specs.List.AllWithin, station_scan.specs.Fitting.IsOff}
use Rattle.station_scan.proofs.fitting.are_off_own.Given as goal

abbrev pub invariant-packets : goal.invariant-packets
invariant-packets g l = AllWithin (IsOff (g.O.OwnPaths.is_own l.own) l.trial) l.packets 0 l.packet-index
