use Rattle.std.proofs.Common.{◌≡◌, ℕ, suc, ◌<◌, ◌∷◌, length, get_or, replicate}
use Rattle.echo_nodelist.specs.{Crc.crc, Tables.IsTable}
use Rattle.echo_nodelist.proofs.crc.after_zero.Given as goal

abbrev pub invariant-entries : goal.invariant-entries
invariant-entries l = (length l.next ≡ 256) × ((zeros : ℕ) → IsTable zeros l.table → (k : ℕ) → k < l.i → get_or l.next k 0 ≡ crc (k ∷ replicate (suc zeros) 0))
