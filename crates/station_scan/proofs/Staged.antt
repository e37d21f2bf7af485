-- Packets in staging files, while a path is tried with the first of them.
use Rattle.std.proofs.{Common.{◌≡◌, ◌≢◌, ◌⊎◌, inl, inr, ⊎_elim, ◌∙◌, ◌<◌, ℕ, List, ap, arith, get_or, length, sym}, lemmas.{Bool.cases_lt, List.get_or_default}}
use Rattle.{std.{proofs.lemmas.List.Elements.{All-contains, Contains-get_or}, specs.Prelude.{All, Contains}}, disk_io.specs.Disk.DiskState}
use Rattle.{disk_io.specs.Runs.ChangesNothing, disk_atomic.specs.Outgoing.{ArePlaced, IsAtStaging, IsStaged, IsStagingFlushed, staged_in}}
use Rattle.disk_atomic.specs.{Changes.{ChangesOnly, DifferAt, HasOnDisk}, Trying.{Tries, WasTried}, StagingPaths.staging_path}
use Rattle.disk_atomic.{specs.declared.outgoing.Outgoing.Outgoing, proofs.{Changes.{stays_on_disk, wider}, Packets.path_not_staging, Parts.all_on_disk}}
use Rattle.station_scan.specs.{Left.IsOfNameOff, Publishing.{AreOpen, IsTrial, IsTriedWith, IsWritten}, Sends.WasTriedFor}

-- it was tried after a run at these paths
pub tried_after : {D : Type 0} (state : D → DiskState) (few paths : List ℕ → Type 0) (trial : List ℕ) (d0 d1 : DiskState) → ((m : List ℕ) → few m → paths m) → DifferAt paths d0.seen d1.seen
    → WasTried state few trial d1 → WasTried state paths trial d0
tried_after state few paths trial d0 d1 more run was = grind arith

-- the same of the packets of a scan
pub tried_before : {D F : Type 0} (state : D → DiskState) (Own : List ℕ → Type 0) (outbound own : List ℕ) (files : List F) (d0 d1 : DiskState) → DifferAt (IsOfNameOff Own outbound own) d0.seen d1.seen
    → WasTriedFor state Own outbound own files d1 → WasTriedFor state Own outbound own files d0
tried_before state Own outbound own files d0 d1 run (inl none) = inl none
tried_before state Own outbound own files d0 d1 run (inr was) = inr (tried_after state (IsOfNameOff Own outbound own) (IsOfNameOff Own outbound own) (staging_path outbound own) d0 d1 (λ m is. is) run was)

module _ (outbound trial : List ℕ) (packets : List Outgoing) (placed : ArePlaced outbound packets) (of : IsTrial outbound packets trial) where
  -- the path of one is none at which packets are staged
  pub path_off : (k : ℕ) (z : Outgoing) → k < length packets → IsAtStaging packets trial (get_or packets k z).path.now → ⊥
  path_off k z lt at = ⊎_elim (λ b. path_not_staging outbound packets placed k z lt b) (λ t. of.off (get_or packets k z, Contains-get_or packets k z lt, inr (sym t))) at

  module _ (content : Outgoing → List ℕ) (x : Outgoing) (is : x ≡ get_or packets 0 x) (some : 0 < length packets) where
    has : Contains packets x
    has = (0, some, sym is)

    pub first_other : x.staging.now ≢ trial
    first_other e = of.off (x, has, inl (sym e))

    pub first_staged : (d : DiskState) → All (IsStaged content d) packets → IsStaged content d x
    first_staged d all = All-contains (IsStaged content d) packets x all has

    pub at_staging : (m : List ℕ) → (m ≡ x.staging.now) ⊎ (m ≡ trial) → IsAtStaging packets trial m
    at_staging m at = ⊎_elim (λ b. inl (x, has, b)) (λ t. inr t) at

    module _ (d e : DiskState) (tries : Tries d e trial x.staging.now) where
      pub tried_changes : ChangesOnly (IsAtStaging packets trial) d e
      tried_changes = wider (λ m. (m ≡ x.staging.now) ⊎ (m ≡ trial)) (IsAtStaging packets trial) d e at_staging tries.changes

      file_still : All (IsStaged content d) packets → (k : ℕ) (z : Outgoing) → k < length packets → HasOnDisk e (get_or packets k z).staging.now (content (get_or packets k z))
      file_still all k z lt =
          let p = get_or packets k z in
          let first : get_or packets 0 z ≡ x = get_or_default packets 0 z x some ∙ sym is in
          let was = (first_staged d all).file in
          ⊎_elim
          (λ (later : 0 < k).
          stays_on_disk (λ m. (m ≡ x.staging.now) ⊎ (m ≡ trial)) d e p.staging.now (content p) tries.changes
          (λ at.
          ⊎_elim (λ b. (placed.apart 0 k z later lt).stagings (ap (λ (q : Outgoing). q.staging.now) first ∙ sym b)) (λ t. of.off (p, Contains-get_or packets k z lt, inl (sym t))) at)
          (all k z lt).file)
          (grind (arith, get_or))
          (cases_lt 0 k)

      pub still_staged : All (IsStaged content d) packets → All (IsStaged content e) packets
      still_staged all k z lt = grind (arith, file_still, get_or, path_off, at_staging)

-- packets on the disk as their staging files were seen are there as these are seen now
pub staged_now : (content : Outgoing → List ℕ) (packets : List Outgoing) (e : DiskState) → All (IsStaged content e) packets → All (IsWritten content e.seen) packets × All (IsStaged (staged_in e.seen) e) packets
staged_now content packets e all = grind (arith, get_or)

-- files that were seen and are synced are on the disk
pub synced : (outbound : List ℕ) (packets : List Outgoing) → ArePlaced outbound packets → (d e : DiskState) → AreOpen outbound packets d → ChangesNothing d e → All (IsStagingFlushed e) packets → All (IsStaged (staged_in e.seen) e) packets
synced outbound packets placed d e opened quiet flushed k z lt = grind (arith, get_or, all_on_disk)

-- it was tried after a run that changed nothing
pub tried_quiet : {D : Type 0} (state : D → DiskState) (packets : List Outgoing) (trial : List ℕ) (d0 d1 : DiskState) → ChangesNothing d0 d1 → IsTriedWith state packets trial d1 → IsTriedWith state packets trial d0
tried_quiet state packets trial d0 d1 quiet (inl none) = inl none
tried_quiet state packets trial d0 d1 quiet (inr was) = inr (tried_after state (IsAtStaging packets trial) (IsAtStaging packets trial) trial d0 d1 (λ m is. is) (λ m out. quiet.seen m) was)
