use Rattle.{std.proofs.Common.{append_assoc, arith}, base_file.specs.BaseFile.head_bytes}
use Rattle.station_bases.proofs.entry_saving.head_of.Goals as goal

pub returns : goal.returns
unfolding head_bytes
returns c = grind (arith, append_assoc)
