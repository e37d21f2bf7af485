use Rattle.std.proofs.Common.{◌≡◌, List, ℕ, ◌++◌, length}
use Rattle.echo_nodelist.specs.Crc.{crc}
use Rattle.echo_nodelist.proofs.crc.crc16.Given as goal

abbrev pub invariant-eights : goal.invariant-eights
invariant-eights l = (passed : List ℕ) × (l.fn.bytes ≡ passed ++ l.rest) × (crc passed ≡ l.register)

abbrev pub decreases-eights : goal.decreases-eights
decreases-eights l = length l.rest
