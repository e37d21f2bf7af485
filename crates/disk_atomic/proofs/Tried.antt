-- A path that is tried with a file that has another one.
use Rattle.std.proofs.Common.{◌≡◌, ◌≢◌, ◌⊎◌, ◌∙◌, ℕ, List, arith}
use Rattle.disk_io.specs.{Disk.DiskState, Runs.ChangesNothing}
use Rattle.disk_atomic.{specs.{Changes.ChangesOnly, Naming.Gives, Trying.Tries}, proofs.Changes.{only_nothing, then_only, wider}}

module _ (trial from : List ℕ) (other : from ≢ trial) (old new : DiskState) where
  pub tries_only : ChangesOnly (λ m. m ≡ trial) old new → Tries old new trial from
  tries_only run = grind (arith, wider)

pub tries_then : (trial from : List ℕ) (d0 d1 d2 : DiskState) → Tries d0 d1 trial from → Tries d1 d2 trial from → Tries d0 d2 trial from
tries_then trial from d0 d1 d2 one two = record {
  changes = then_only (λ m. (m ≡ from) ⊎ (m ≡ trial)) d0 d1 d2 one.changes two.changes;
  stays = record { seen = two.stays.seen ∙ one.stays.seen; named = λ is. two.stays.named (one.stays.named is); flushed = λ is. two.stays.flushed (one.stays.flushed is) };
}

module _ (trial from : List ℕ) (other : from ≢ trial) (d0 d1 d2 : DiskState) (clear : ChangesOnly (λ m. m ≡ trial) d0 d1) (gives : Gives d1 d2 trial from) where
  pub tries_linked : Tries d0 d2 trial from
  tries_linked = tries_then trial from d0 d1 d2 (tries_only trial from other d0 d1 clear) (record { changes = gives.changes; stays = gives.stays })

  pub tries_flushed : (d3 : DiskState) → ChangesNothing d2 d3 → Tries d0 d3 trial from
  tries_flushed d3 quiet = tries_then trial from d0 d2 d3 tries_linked (tries_only trial from other d2 d3 (only_nothing (λ m. m ≡ trial) d2 d3 quiet))
