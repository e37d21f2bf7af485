-- How a scan ended.
use Rattle.std.specs.Prelude.{Result, Err}
use Rattle.station_scan.specs.declared.scan_error.ScanError.{ScanError, TheVariants.{Staying}}

-- The base is as before, and staging files of packets may be left.
abbrev pub IsStaying : Result (Unit {0}) ScanError → Type 0
IsStaying (Err (Staying left)) = Unit {0}
IsStaying _ = ⊥
