-- So are the bytes up to here.
use Rattle.{std.specs.List.AllWithin, disk_atomic.specs.ListStaged.IsNameByte}
use Rattle.station_scan.proofs.fitting.is_name.Given as goal

abbrev pub invariant-bytes : goal.invariant-bytes
invariant-bytes l = AllWithin IsNameByte l.name 0 l.byte-index
