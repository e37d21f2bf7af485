use Rattle.std.proofs.Common.{◌≡◌, List, ℕ, ◌++◌, take}
use Rattle.echo_nodelist.specs.Crc.{crc}
use Rattle.echo_nodelist.proofs.crc.with_bytes.Given as goal

abbrev pub invariant-bytes : goal.invariant-bytes
invariant-bytes l = (passed : List ℕ) → crc passed ≡ l.fn.start → crc (passed ++ take l.byte-index l.more) ≡ l.register
