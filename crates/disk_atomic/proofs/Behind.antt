-- Staging files of disjoint packets, one of which grew.
use Rattle.std.proofs.Common.{◌≡◌, ◌≢◌, ◌∙◌, ⊎_elim, ℕ, ◌<◌, ◌≤◌, ◌+◌, ◌++◌, List, ap, arith, get_or, length, subst, sym}
use Rattle.std.{proofs.lemmas.{Bool.cases_order, List.get_or_default}, specs.{Prelude.{All, AllPairs}, List.AllWithin}}
use Rattle.echo_addr.specs.declared.address.Address.{Address}
use Rattle.disk_io.specs.Disk.{DiskState, bytes_in}
use Rattle.disk_atomic.specs.{Changes.CanGrow, Changes.ChangesOnly, Outgoing.AreApart, Outgoing.CanGrowStaging, Outgoing.IsLonger, Outgoing.staged_in, declared.outgoing.Outgoing.Outgoing}
use Rattle.disk_atomic.proofs.{Each.apart, Each.behind, Packets.At, Packets.apart_back}

module _ (packets : List Outgoing) (pairs : AllPairs AreApart packets) (i : ℕ) (x : Outgoing) (lt : i < length packets) (is : x ≡ get_or packets i x) (d e : DiskState) (run : ChangesOnly (At x) d e) where
  other : (k : ℕ) (p : Outgoing) → k ≢ i → k < length packets → (get_or packets k p).staging.now ≡ x.staging.now → ⊥
  other k p differs within at = (apart AreApart apart_back packets pairs i x lt k p differs within).stagings (ap (λ (q : Outgoing). q.staging.now) (sym is) ∙ sym at)

  same_other : (k : ℕ) (p : Outgoing) → k ≢ i → k < length packets → e.seen (get_or packets k p).staging.now ≡ d.seen (get_or packets k p).staging.now
  same_other k p differs within = run.seen (get_or packets k p).staging.now (other k p differs within)

  one_at : (k : ℕ) (p : Outgoing) → k ≡ i → get_or packets k p ≡ x
  one_at k p same = ap (λ (n : ℕ). get_or packets n p) same ∙ get_or_default packets i p x lt ∙ sym is

  grow_other : (k : ℕ) (p : Outgoing) → k ≢ i → k < length packets → CanGrowStaging d (get_or packets k p) → CanGrowStaging e (get_or packets k p)
  grow_other k p differs within was = grind (arith, get_or, other)

  pub all_grow : All (CanGrowStaging d) packets → CanGrow e x.staging.now → All (CanGrowStaging e) packets
  all_grow all now k p within =
      ⊎_elim (λ (same : k ≡ i). subst (CanGrowStaging e) (sym (one_at k p same)) now)
      (λ o. ⊎_elim (λ (low : k < i). grow_other k p (omega arith) within (all k p within)) (λ (high : i < k). grow_other k p (omega arith) within (all k p within)) o)
      (cases_order k i)

  module _ (d0 : DiskState) (more : Address → List ℕ) (same : (k : ℕ) (p : Outgoing) → i ≤ k → k < length packets → d.seen (get_or packets k p).staging.now ≡ d0.seen (get_or packets k p).staging.now) where
    pub still_same : (k : ℕ) (p : Outgoing) → i + 1 ≤ k → k < length packets → e.seen (get_or packets k p).staging.now ≡ d0.seen (get_or packets k p).staging.now
    still_same k p later within = same_other k p (omega arith) within ∙ same k p (omega arith) within

    pub one_longer : staged_in e.seen x ≡ staged_in d.seen x ++ more x.to → AllWithin (IsLonger more d0 d) packets 0 i → AllWithin (IsLonger more d0 e) packets 0 (i + 1)
    one_longer now was =
        let first : d.seen x.staging.now ≡ d0.seen x.staging.now = subst (λ (q : Outgoing). d.seen q.staging.now ≡ d0.seen q.staging.now) (sym is) (same i x (omega arith) lt) in
        let here : IsLonger more d0 e x = now ∙ ap (λ f. bytes_in f ++ more x.to) first in
        behind AreApart apart_back packets pairs i x lt (IsLonger more d0 d) (IsLonger more d0 e) (λ y away before. ap bytes_in (run.seen y.staging.now (λ at. away.stagings (ap (λ (q : Outgoing). q.staging.now) (sym is) ∙ sym at))) ∙ before)
        (subst (IsLonger more d0 e) is here) was
