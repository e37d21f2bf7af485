-- Packets that are written group by group, while their store is read.
use Rattle.{std.{proofs.Common.{inl, inr, ℕ, List, arith, get_or}, specs.Prelude.{All, Err, IfOk, Ok, OnOk, Result}}, station_scan.proofs.Staged.tried_after}
use Rattle.disk_io.specs.{Disk.{DiskState, Honestly, IsIn}, Runs.KeepsNamed, declared.disk_error.DiskError.DiskError}
use Rattle.disk_atomic.specs.{Outgoing.{ArePlaced, CanGrowStaging, IsAtStaging, IsLonger, IsMade, IsFree, IsStagingOne, SendsBytes}, Changes.ChangesOnly}
use Rattle.disk_atomic.{specs.declared.outgoing.Outgoing.Outgoing, proofs.{Changes.{only_start, then_only}, Growing.are_both, Packets.path_not_staging}}
use Rattle.{disk_atomic.proofs.Whole.some_is_there, echo_addr.specs.declared.address.Address.Address, base_store.specs.Store.StoreState}
use Rattle.{base_store.proofs.Runs.{same_store, same_twice}, station.specs.Beneath.{AreSettledByOwn, IsUsedAt}}
use Rattle.station_scan.{specs.{Publishing.{AreOpen, IsTriedWith}, Writing.IsBegun, declared.writing.Batch.Batch}, proofs.Published.{holds_now, holds_still}}

-- ---- a store after several uses of its disk

module _ (paths : List ℕ → Type 0) where
  pub used_none : (s : StoreState) → AreSettledByOwn s → s.is_ready → IsUsedAt paths s s
  used_none s settled ready = record { settled = settled; same = same_store s; holds = holds_now s ready; changes = only_start paths s.disk }

  pub used_twice : (s0 s1 s2 : StoreState) → IsUsedAt paths s0 s1 → IsUsedAt paths s1 s2 → IsUsedAt paths s0 s2
  used_twice s0 s1 s2 one two = record {
    settled = one.settled;
    same = same_twice s0 s1 s2 one.same two.same;
    holds = holds_still s0 s1 s2 one.holds two.holds;
    changes = then_only paths s0.disk s1.disk s2.disk one.changes two.changes;
  }

  pub used_settled : (s0 s1 : StoreState) → IsUsedAt paths s0 s1 → AreSettledByOwn s1
  used_settled s0 s1 used base before after same represented =
      (used.same.represented base after).1 (used.settled base before after (λ m own. same m ((used.same.own m).1 own)) ((used.same.represented base before).0 represented))

-- ---- staging files that grow

module _ (outbound : List ℕ) (packets : List Outgoing) (placed : ArePlaced outbound packets) where
  pub open_made : (d : DiskState) → All (IsMade d) packets → ((m : List ℕ) → IsIn outbound m → d.is_named m) → Honestly d (All (IsFree d) packets) → AreOpen outbound packets d
  open_made d made named free = grind (arith, some_is_there, get_or)

  pub open_then : (more : Address → List ℕ) (d e : DiskState) → AreOpen outbound packets d → ChangesOnly (IsStagingOne packets) d e → KeepsNamed (λ m. ⊥) d e → All (CanGrowStaging e) packets
      → Honestly e (All (IsLonger more d e) packets) → All (SendsBytes (λ p. more p.to)) packets → AreOpen outbound packets e
  open_then more d e was run keeps grow longer bytes = grind (arith, get_or, path_not_staging, are_both)

  pub opened_if : (more : Address → List ℕ) (d e : DiskState) → AreOpen outbound packets d → ChangesOnly (IsStagingOne packets) d e → KeepsNamed (λ m. ⊥) d e → (done : Result (Unit {0}) DiskError) → OnOk done (All (CanGrowStaging e) packets)
      → Honestly e (OnOk done (All (IsLonger more d e) packets)) → OnOk done (All (SendsBytes (λ p. more p.to)) packets) → OnOk done (AreOpen outbound packets e)
  opened_if more d e was run keeps (Ok done) grow longer bytes = open_then more d e was run keeps grow longer bytes
  opened_if more d e was run keeps (Err cause) grow longer bytes = tt

pub begun_if : (batch : Batch) → ArePlaced batch.outbound.now batch.packets.now → (d : DiskState) → All (IsMade d) batch.packets.now → ((m : List ℕ) → IsIn batch.outbound.now m → d.is_named m)
    → Honestly d (All (IsFree d) batch.packets.now) → IsBegun batch d
begun_if batch placed d made named free = grind (arith, open_made, get_or)

-- it was tried once they were written
pub tried_written : {D : Type 0} (state : D → DiskState) (packets : List Outgoing) (trial : List ℕ) (d e : DiskState) → ChangesOnly (IsStagingOne packets) d e → IsTriedWith state packets trial e → IsTriedWith state packets trial d
tried_written state packets trial d e run (inl none) = inl none
tried_written state packets trial d e run (inr was) = inr (tried_after state (IsAtStaging packets trial) (IsAtStaging packets trial) trial d e (λ m is. is) (λ m off. run.seen m (λ is. off (inl is))) was)

pub ok_gives : {T E : Type 0} (r : Result T E) (P Q : T → Type 0) → ((value : T) → P value → Q value) → IfOk r P → IfOk r Q
ok_gives (Ok value) P Q gives is = gives value is
ok_gives (Err cause) P Q gives is = tt
