-- The bytes up to here are plain.
use Rattle.std.specs.{Prelude.◌≢◌, List.AllWithin}
use Rattle.station_bases.proofs.folder_lending.is_plain.Given as goal

abbrev pub invariant-bytes : goal.invariant-bytes
invariant-bytes l = AllWithin (λ b. b ≢ 47) l.name 0 l.byte-index
