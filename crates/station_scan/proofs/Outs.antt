-- Leftover packets are finished. Then the packets of a scan and the commit of its store get to the disk.
use Rattle.std.proofs.{Common.{◌≡◌, ◌<◌, ◌⊎◌, inl, inr, ⊎_elim, ◌∙◌, ℕ, List, All, get_or, subst, arith}, lemmas.{Bool.cases_lt, List.Elements.All-contains}}
use Rattle.{std.specs.Prelude.{Err, IfErr, Ok, OnOk, Result}, base_file.specs.Base.Base, disk_io.specs.{Disk.{DiskState, Files}, Runs.{LeavesOnly, OneStepOn}}}
use Rattle.{disk_io.proofs.Moments.{left_now, then_run, weaker_run}, disk_atomic.specs.Finishing.{FinishesEach, IsOfLeft, IsOver}}
use Rattle.disk_atomic.specs.declared.{finishing.Left.Left, placing_error.PlacingError.{PlacingError, TheVariants.{Device, Taken}}}
use Rattle.{model_steps.specs.PacketFiles.PacketFile, base_store.{specs.Store.StoreState, proofs.Runs.same_twice}}
use Rattle.{station.specs.Beneath.{HoldsAsBefore, IsUsedAt}, station_scan.specs.Left.{AreFreeLeft, EndsLeft, IsEnded, IsEndedAt, IsLeftOf, IsOfNameOff}}
use Rattle.station_scan.{specs.declared.scan_error.ScanError.TheVariants.Placing, proofs.Stops.{placing_why, put_wider, tells_as}}
use Rattle.station_scan.specs.{Scanning.{AreSentOut, CommitsScan, IsTaken, IsTouched, PreparesScan, SendsOut}, Fitting.AreTaken}
use Rattle.station_scan.specs.{Publishing.{IsOnDisk, KeepsStoreBut}, Sending.{HasBytes, IsAtItsPath, IsFreeAt, IsStagingGone, IsStagingOn}}
use Rattle.station_scan.specs.{Sends.{AreSentOn, IsLeftAs, IsOfThese, SendsThese, WasTriedFor, WritesStaging}, Stops.{IsOfPlacing, most}}
use Rattle.station_scan.{specs.declared.scan_error.ScanError.ScanError, proofs.{Published.{keeps_only, keeps_then, keeps_wider}, Staged.tried_before}}

-- a finished packet in the files seen
pub is_ended : (cursor : ℕ) (d0 d1 : DiskState) (l : Left) → IsOver cursor d0 d1 l → IsEnded cursor d0.seen d1.seen l
is_ended cursor d0 d1 l over = grind (arith, ⊎_elim, cases_lt)

-- a leftover packet has no own path
left_off : (Own : List ℕ → Type 0) (is_true : Type 0) (outbound own : List ℕ) (found : List Left) → All (IsLeftOf is_true Own outbound own) found → (m : List ℕ) → Own m → IsOfLeft found m → ⊥
left_off Own is_true outbound own found each m is (l, among, at) =
    let (name, like, numbered) = All-contains (IsLeftOf is_true Own outbound own) found l each among in
    ⊎_elim (λ e. like.off.staging (subst Own (e ∙ like.staging) is)) (λ e. like.off.path (subst Own (e ∙ like.path) is)) at

module _ (Own : List ℕ → Type 0) (outbound own : List ℕ) (is_true failed : Type 0) (cursor : ℕ) (files : List PacketFile) (s0 s1 : StoreState) (inside : (m : List ℕ) → s0.is_own m → Own m)
    (used : IsUsedAt (IsOfNameOff Own outbound own) s0 s1) (ready : s0.is_ready) (honest0 : s0.disk.is_honest) (first next : Base) (was : s0.committed first) where
  abbrev Stays : Files → Type 0
  Stays = s0.represented first

  abbrev Comes : Files → Type 0
  Comes = s0.represented next

  module _ (result1 : Result (Unit {0}) PlacingError) (ends : EndsLeft is_true Own outbound own cursor s0.disk s1.disk result1) where
    abbrev found : List Left
    found = ends.found

    abbrev May : Files → Type 0
    May c = OneStepOn (PreparesScan outbound own Stays cursor found files) s0.disk c ⊎ CommitsScan is_true Own outbound own (IsOnDisk s0.disk) Stays Comes cursor found files s0.disk.seen c

    represented_ended : (a c : Files) → s0.disk.may_leave a → FinishesEach cursor found a c → Stays c
    represented_ended a c left finishes =
        used.settled first a c (λ m is. finishes.others m (left_off Own is_true outbound own found ends.each m (inside m is))) (s0.stays honest0 ready first was a left)

    ended_moments : LeavesOnly s0.disk s1.disk May
    ended_moments = grind (arith, weaker_run, represented_ended)

    -- it stopped before
    pub not_sent : {D : Type 0} (state : D → DiskState) → s1.disk.is_honest → (cause : PlacingError) → (cause ≡ Device → failed) → (cause ≡ Taken → AreFreeLeft Own outbound own s0.disk.seen → ⊥)
        → SendsOut state is_true failed Own outbound own Stays Comes cursor files s0.disk s1.disk (Err (Placing cause))
    not_sent state honest1 cause device taken = record {
      found = found;
      each = ends.each;
      sent = tt;
      crash = ended_moments;
      why = placing_why failed (IsTaken Own outbound own cursor found files s0.disk.seen) (most < cursor) cause device (λ is. inl (taken is));
      left = inl (used.settled first s0.disk.seen s1.disk.seen (λ m o. used.changes.seen m (λ is. is.1 (inside m o))) (s0.shown honest0 ready first was), λ m at other. inr (ends.changes.seen m other));
      tried = inl (λ c left. (used.same.represented first c).0 (s1.stays honest1 used.holds.ready first (used.holds.committed first was) c left));
    }

    -- or staging files were written, and it stopped before the commit
    abbrev Prepared : Files → Type 0
    Prepared = OneStepOn (PreparesScan outbound own Stays cursor found files) s0.disk

    pub stopped_only : LeavesOnly s0.disk s1.disk Prepared
    stopped_only = grind (arith, weaker_run, represented_ended)

    pub stopped_crash : (s2 : StoreState) → LeavesOnly s1.disk s2.disk (WritesStaging s1 outbound own files first) → LeavesOnly s0.disk s2.disk Prepared
    stopped_crash s2 run =
        then_run s0.disk s1.disk s2.disk Prepared (WritesStaging s1 outbound own files first) stopped_only run
        (λ c over.
        let b = over.writes.0 in
        let at = left_now s0.disk s1.disk (OneStepOn (FinishesEach cursor found) s0.disk) ends.any_moment b over.writes.1 in
        (at.0, at.1, record { between = b; ends = at.2; writes = over.writes.2; represented = (used.same.represented first c).0 over.represented }))

  -- they are finished
  module _ (ends : EndsLeft is_true Own outbound own cursor s0.disk s1.disk (Ok tt)) (s2 : StoreState) (honest2 : s2.disk.is_honest) (kept : KeepsStoreBut (IsOfThese s1.is_own outbound own files) s1 s2) (is : s0.keeps next) where
    abbrev these : List Left
    these = ends.found

    abbrev All_may : Files → Type 0
    All_may c = OneStepOn (PreparesScan outbound own Stays cursor these files) s0.disk c ⊎ CommitsScan is_true Own outbound own (IsOnDisk s0.disk) Stays Comes cursor these files s0.disk.seen c

    all_ended : All (IsEnded cursor s0.disk.seen s1.disk.seen) these
    all_ended k z lt = is_ended cursor s0.disk s1.disk (get_or these k z) (ends.over k z lt)

    of_these : (m : List ℕ) → IsOfThese s1.is_own outbound own files m → IsOfThese Own outbound own files m
    of_these m of = ⊎_elim (λ o. inl (inside m ((used.same.own m).0 o))) (λ p. inr p) of

    -- what was on the disk is, once they are finished
    on_disk_ended : (m : List ℕ) → (IsOnDisk s0.disk m × (IsOfLeft these m → ⊥)) ⊎ IsEndedAt cursor these s1.disk.seen m → IsOnDisk s1.disk m
    on_disk_ended m at =
        ⊎_elim (λ (on : IsOnDisk s0.disk m × (IsOfLeft these m → ⊥)). (ends.changes.named m on.1 on.0.0, ends.changes.flushed m on.1 on.0.1))
        (λ (ended : IsEndedAt cursor these s1.disk.seen m). (ends.named m (ended.0, ended.1, ⊎_elim (λ e. inl e) (λ p. inr p.0) ended.2), ends.flushed m ended)) at

    sent_moment : (c : Files) → SendsThese s1 outbound own files first next c → All_may c
    sent_moment c (inl over) =
        let b = over.writes.0 in
        let at = left_now s0.disk s1.disk (OneStepOn (FinishesEach cursor these) s0.disk) ends.any_moment b over.writes.1 in
        inl (at.0, at.1, record { between = b; ends = at.2; writes = over.writes.2; represented = (used.same.represented first c).0 over.represented })
    sent_moment c (inr with) = inr (record {
      all = ends.all;
      between = s1.disk.seen;
      ended = all_ended;
      staging_them = ends.changes.seen;
      others = λ m other at. with.others m (λ of. other (of_these m of)) (on_disk_ended m at);
      either = ⊎_elim (λ none. inl ((used.same.represented first c).0 none.0, none.1)) (λ all. inr ((used.same.represented next c).0 all.0, all.1, all.2)) with.either;
    })

    sent_crash : LeavesOnly s1.disk s2.disk (SendsThese s1 outbound own files first next) → LeavesOnly s0.disk s2.disk All_may
    sent_crash run = then_run s0.disk s1.disk s2.disk All_may (SendsThese s1 outbound own files first next) (ended_moments (Ok tt) ends) run sent_moment

    sent_out : (made : Base → List PacketFile) → made next ≡ files → All (IsFreeAt outbound s1.disk.seen) files → AreSentOn outbound own made s1 s2 → AreSentOut is_true Own outbound own (IsOnDisk s0.disk) Comes cursor these files s0.disk.seen s2.disk
    sent_out made are free sent =
        let kept_next = used.holds.keeps next is in
        let now = sent.committed.committed honest2 next kept_next in
        let back : (c : Files) → s2.represented next c → Comes c = λ c represented. (used.same.represented next c).0 ((kept.same.represented next c).0 represented) in
        record {
          all = ends.all;
          between = s1.disk.seen;
          ended = all_ended;
          staging_them = ends.changes.seen;
          free = free;
          packets = subst (λ (l : List PacketFile). All (IsAtItsPath outbound s2.disk) l) are (sent.packets honest2 next kept_next);
          gone = subst (λ (l : List PacketFile). All (IsStagingGone outbound own s2.disk.seen) l) are (sent.gone honest2 next kept_next);
          shown = back s2.disk.seen (s2.shown honest2 sent.committed.ready next now);
          on_disk = λ c left. back c (s2.stays honest2 sent.committed.ready next now c left);
          others = λ m other. kept.keeps.seen m (λ of. other (of_these m of));
          bytes = subst (λ (l : List PacketFile). All HasBytes l) are (sent.bytes honest2 next kept_next);
          settled = subst (λ (l : List PacketFile). All (IsStagingOn outbound own s2.disk) l) are (sent.settled honest2 next kept_next);
          still = λ m other at.
              let on = on_disk_ended m at in
              let off : IsOfThese s1.is_own outbound own files m → ⊥ = λ of. other (of_these m of) in
              (kept.keeps.named m off on.0, kept.keeps.flushed m off on.1);
        }

    sent_if : (made : Base → List PacketFile) → made next ≡ files → (result : Result (Unit {0}) ScanError) → OnOk result (All (IsFreeAt outbound s1.disk.seen) files) → OnOk result (AreSentOn outbound own made s1 s2) → OnOk result (AreSentOut is_true Own outbound own (IsOnDisk s0.disk) Comes cursor these files s0.disk.seen s2.disk)
    sent_if made are (Ok done) free sent = sent_out made are free sent
    sent_if made are (Err cause) free sent = tt

    pub sends_out : {D : Type 0} (state : D → DiskState) (made : Base → List PacketFile) → made next ≡ files → (result : Result (Unit {0}) ScanError) → OnOk result (All (IsFreeAt outbound s1.disk.seen) files) → OnOk result (AreSentOn outbound own made s1 s2) → LeavesOnly s1.disk s2.disk (SendsThese s1 outbound own files first next)
        → IfErr result (IsOfPlacing failed (AreTaken Own outbound own files s1.disk.seen) (most < cursor))
        → IfErr result (IsLeftAs outbound own (s1.represented first) (s1.represented next) (λ m. ⊥) files s1.disk.seen s2.disk.seen)
        → HoldsAsBefore s1 s2 ⊎ WasTriedFor state Own outbound own files s1.disk → SendsOut state is_true failed Own outbound own Stays Comes cursor files s0.disk s2.disk result
    sends_out state made are result free sent run why left tried = record {
      found = these;
      each = ends.each;
      sent = sent_if made are result free sent;
      crash = sent_crash run;
      why = put_wider failed failed _ _ _ result (λ f. f) (λ taken. inr (s1.disk.seen, all_ended, ends.changes.seen, taken)) why;
      left =
          tells_as _ _ _ _ _ _ _ _ (used.same.represented first s2.disk.seen).0 (λ none m at other. ⊎_elim (λ gone. inl gone) (λ same. inr (same ∙ ends.changes.seen m other)) (none m at (λ never. never)))
          (used.same.represented next s2.disk.seen).0 (λ all. all) result left;
      tried =
          ⊎_elim (λ (h : HoldsAsBefore s1 s2). inl (λ c lasts. (used.same.represented first c).0 ((kept.same.represented first c).0 (s2.stays honest2 h.ready first (h.committed first (used.holds.committed first was)) c lasts))))
          (λ (t : WasTriedFor state Own outbound own files s1.disk). inr (tried_before state Own outbound own files s0.disk s1.disk used.changes.seen t)) tried;
    }

-- the paths that it touches
pub out_keeps : (Own : List ℕ → Type 0) (outbound own : List ℕ) (s0 s1 s2 : StoreState) → IsUsedAt (IsOfNameOff Own outbound own) s0 s1 → KeepsStoreBut (IsTouched s1.is_own outbound) s1 s2 → KeepsStoreBut (IsTouched s0.is_own outbound) s0 s2
out_keeps Own outbound own s0 s1 s2 used kept = grind (arith, same_twice, keeps_then, keeps_wider, keeps_only, ⊎_elim)
