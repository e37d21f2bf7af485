-- After a scan that ended well its folder is on the disk.
use Rattle.std.proofs.{Common.{◌≡◌, ◌≢◌, ◌⊎◌, inl, inr, ⊎_elim, ◌∙◌, ◌<◌, ◌≤◌, sym, subst, ap, append_assoc, arith, codes, get_or, ℕ, List, ◌++◌, length, None}, lemmas.{Bool.cases_lt, List.append_cancel_left, List.get_or_append_left, List.Elements.All-contains}}
use Rattle.std.specs.Prelude.{All}
use Rattle.disk_io.specs.Disk.{DiskState, Files}
use Rattle.disk_atomic.specs.{Finishing.IsOfLeft, ListStaged.IsNameByte, StagingPaths.staging_path, declared.finishing.Left.Left}
use Rattle.model_steps.specs.PacketFiles.{PacketFile}
use Rattle.station_scan.specs.{Left.IsEnded, Left.IsEndedAt, Left.IsLeftOf, Publishing.IsOnDisk, Scanning.AreSentOut, Sending.IsAtItsPath, Sending.IsStagingOn, Sends.IsOfThese}
use Rattle.law_stations.specs.PacketNames.{ArePathsOnDisk, IsPacketName}
use Rattle.{station_scan.proofs.Lists.among as one_of, law_stations.proofs.PacketNames.{long, no-trial}}

-- the path that a scan tries is no staging path of a packet, whatever the system
staged-no-trial : (outbound own other name : List ℕ) → All IsNameByte name → 1 < length name → staging_path (outbound ++ name) other ≡ staging_path outbound own → ⊥
staged-no-trial outbound own other name plain lt is =
    let ending : List ℕ → List ℕ = λ o. codes ".~" ++ (o ++ codes "~.new") in
    let e : name ++ ending other ≡ ending own = append_cancel_left outbound (name ++ ending other) (ending own) (sym (append_assoc outbound name (ending other)) ∙ is) in
    let at : get_or name 1 0 ≡ 126 = sym (get_or_append_left name (ending other) 0 1 lt) ∙ ap (λ (l : List ℕ). get_or l 1 0) e in
    (plain 1 0 lt).no_tilde at

name-long : (Own : List ℕ → Type 0) (outbound own name : List ℕ) → IsPacketName Own outbound own name → 1 < length name
name-long Own outbound own name is = let all = long is.numbered.front is.number in omega (arith, ap (λ (l : List ℕ). length l) is.numbered.parts, all)

module _ (Own : List ℕ → Type 0) (outbound own : List ℕ) (Comes : Files → Type 0) (cursor : ℕ) (files : List PacketFile) (old new : DiskState) (is_true : Type 0) (truth : is_true) (found : List Left) (each : All (IsLeftOf is_true Own outbound own) found)
    (opened : Files) (same : (m : List ℕ) → (Own m → ⊥) → opened m ≡ old.seen m) (free : (name : List ℕ) → (is : IsPacketName Own outbound own name) → cursor ≤ is.number → old.seen (outbound ++ name) ≡ None)
    (sent : AreSentOut is_true Own outbound own (IsOnDisk old) Comes cursor found files opened new) where
  -- a leftover packet that has a path has ended there
  left-ended : (m : List ℕ) → IsOfLeft found m → IsEndedAt cursor found sent.between m
  left-ended m (l, has, inl staging) = (l, has, inl staging)
  left-ended m (l, has, inr path) = elim (cases_lt l.before cursor) [
    | inl below ↦ (l, has, inr (path, inl below))
    | inr above ↦ (
        let left = All-contains (IsLeftOf is_true Own outbound own) found l each has in
        let is : IsPacketName Own outbound own left.0 = record { number = l.before; numbered = left.2 truth; off = left.1.off } in
        let e = All-contains (IsEnded cursor opened sent.between) found l sent.ended has in
        let none = free left.0 is above in
        (l, has, inr (path, inr (ap sent.between path ∙ e.untouched above ∙ ap opened left.1.path ∙ same (outbound ++ left.0) left.1.off.path ∙ none))))
  ]

  -- what was on the disk stood, or ended with the leftover packets
  stood-or-ended : (m : List ℕ) → IsOnDisk old m → (IsOnDisk old m × (IsOfLeft found m → ⊥)) ⊎ IsEndedAt cursor found sent.between m
  stood-or-ended m on = elim (one_of (λ (l : Left). l.staging.now) m found) [
    | inl (l, has, is) ↦ inr (l, has, inl is)
    | inr none_staging ↦ elim (one_of (λ (l : Left). l.path.now) m found) [
      | inl (l, has, is) ↦ inr (left-ended m (l, has, inr is))
      | inr none_path ↦ inl (
        on,
        λ of.
            ⊎_elim (λ (e : m ≡ of.0.staging.now). All-contains (λ (l : Left). m ≢ l.staging.now) found of.0 none_staging of.1 e)
            (λ (e : m ≡ of.0.path.now). All-contains (λ (l : Left). m ≢ l.path.now) found of.0 none_path of.1 e) of.2,
      )
    ]
  ]

  still-on : (m : List ℕ) → (Own m → ⊥) → (m ≡ staging_path outbound own → ⊥) → IsOnDisk old m → IsOnDisk new m
  still-on m off not_trial on = elim (one_of (λ (f : PacketFile). outbound ++ f.name) m files) [
    | inl (f, has, is) ↦ (let at = All-contains (IsAtItsPath outbound new) files f sent.packets has in subst (λ (p : List ℕ). IsOnDisk new p) (sym is) (at.named, at.flushed))
    | inr no_path ↦ elim (one_of (λ (f : PacketFile). staging_path (outbound ++ f.name) own) m files) [
      | inl (f, has, is) ↦ subst (λ (p : List ℕ). IsOnDisk new p) (sym is) (All-contains (IsStagingOn outbound own new) files f sent.settled has)
      | inr no_staging ↦ sent.still m (not-these no_path no_staging) (stood-or-ended m on)
    ]
  ]
    where
      not-these : All (λ (f : PacketFile). m ≢ outbound ++ f.name) files → All (λ (f : PacketFile). m ≢ staging_path (outbound ++ f.name) own) files → IsOfThese Own outbound own files m → ⊥
      not-these no_path no_staging (inl o) = off o
      not-these no_path no_staging (inr (inl (f, has, plain, inl is))) = All-contains (λ (k : PacketFile). m ≢ staging_path (outbound ++ k.name) own) files f no_staging has is
      not-these no_path no_staging (inr (inl (f, has, plain, inr is))) = All-contains (λ (k : PacketFile). m ≢ outbound ++ k.name) files f no_path has is
      not-these no_path no_staging (inr (inr is)) = not_trial is

  -- for a system of any name
  pub folder-stays : (other : List ℕ) → ArePathsOnDisk Own outbound other old → ArePathsOnDisk Own outbound other new
  folder-stays other on = record {
    path = λ name is. still-on (outbound ++ name) is.off.path (no-trial outbound own name is.numbered.plain) (on.path name is);
    staging = λ name is. still-on (staging_path (outbound ++ name) other) is.off.staging (staged-no-trial outbound own other name is.numbered.plain (name-long Own outbound other name is)) (on.staging name is);
  }
