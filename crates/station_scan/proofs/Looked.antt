-- A store that was looked through, before packets were sent out with its commit.
use Rattle.std.{proofs.Common.{◌≡◌, ◌⊎◌, inl, inr, ⊎_elim, ◌∙◌, ℕ, List, refl, subst, arith}, specs.Prelude.{All, Err, Ok, OnOk, Result}}
use Rattle.disk_io.{specs.{Disk.{DiskState, Files}, Runs.{ChangesNothing, LeavesOnly, OneStepOn}}, proofs.Moments.{then_run, weaker_run}}
use Rattle.{disk_atomic.specs.{Finishing.IsOfLeft, declared.finishing.Left.Left}, cmd_store.specs.declared.command_error.CommandError.CommandError}
use Rattle.{model_steps.specs.PacketFiles.PacketFile, station_scan.specs.Scanning.{AreSentOut, CommitsScan, IsTaken, PreparesScan, SendsOut, StopsScan}}
use Rattle.station_scan.specs.{Left.IsLeftOf, Publishing.IsOnDisk, Sends.WasTriedFor, declared.scan_error.ScanError.{ScanError, TheVariants.Staying}}
use Rattle.station_scan.proofs.{Lefts.finishes_none, Staged.tried_before, Stops.{put_wider, tells_as}}

-- the same files are seen
pub same_seen : (a b : DiskState) → ChangesNothing a b → b.seen ≡ a.seen
same_seen a b quiet = grind arith

module _ (Own : List ℕ → Type 0) (outbound own : List ℕ) (Stays Comes Stayed Came : Files → Type 0) (cursor : ℕ) (files : List PacketFile) (d0 d1 d2 : DiskState) (quiet : ChangesNothing d0 d1)
    (stays : (c : Files) → Stayed c → Stays c) (comes : (c : Files) → Came c → Comes c) (stood : (c : Files) → d0.may_leave c → Stays c) (found : List Left) (is_true : Type 0) where
  abbrev Before : Files → Type 0
  Before c = OneStepOn (PreparesScan outbound own Stays cursor found files) d0 c ⊎ CommitsScan is_true Own outbound own (IsOnDisk d0) Stays Comes cursor found files d0.seen c

  abbrev After : Files → Type 0
  After c = OneStepOn (PreparesScan outbound own Stayed cursor found files) d1 c ⊎ CommitsScan is_true Own outbound own (IsOnDisk d1) Stayed Came cursor found files d1.seen c

  looked_on : {E : Type 0} (m : List ℕ) → (IsOnDisk d0 m × (IsOfLeft found m → ⊥)) ⊎ E → (IsOnDisk d1 m × (IsOfLeft found m → ⊥)) ⊎ E
  looked_on {E} m on = ⊎_elim (λ (is : IsOnDisk d0 m × (IsOfLeft found m → ⊥)). inl ((quiet.named m (λ h. h) is.0.0, quiet.flushed m (λ h. h) is.0.1), is.1)) (λ (ended : E). inr ended) on

  commits_looked : (c : Files) → CommitsScan is_true Own outbound own (IsOnDisk d1) Stayed Came cursor found files d1.seen c → CommitsScan is_true Own outbound own (IsOnDisk d0) Stays Comes cursor found files d0.seen c
  commits_looked c with =
      let at : CommitsScan is_true Own outbound own (IsOnDisk d1) Stayed Came cursor found files d0.seen c =
      subst (λ (f : Files). CommitsScan is_true Own outbound own (IsOnDisk d1) Stayed Came cursor found files f c) (same_seen d0 d1 quiet) with in
      record {
        all = at.all;
        between = at.between;
        ended = at.ended;
        staging_them = at.staging_them;
        others = λ m other on. at.others m other (looked_on m on);
        either = ⊎_elim (λ none. inl (stays c none.0, none.1)) (λ all. inr (comes c all.0, all.1, all.2)) at.either;
      }

  looked_step : (c : Files) → After c → Before c
  looked_step c (inl step) =
      inl (step.0, quiet.no_more step.0 step.1, record { between = step.2.between; ends = step.2.ends; writes = step.2.writes; represented = stays c step.2.represented })
  looked_step c (inr with) = inr (commits_looked c with)

  looked_moments : LeavesOnly d1 d2 After → LeavesOnly d0 d2 Before
  looked_moments run =
      then_run d0 d1 d2 Before After
      (weaker_run d0 d1 d0.may_leave Before quiet.run (λ c left. inl (c, left, record { between = c; ends = finishes_none cursor found c; writes = λ m other. refl; represented = stood c left })))
      run looked_step

  looked_sent : (result : Result (Unit {0}) ScanError) → OnOk result (AreSentOut is_true Own outbound own (IsOnDisk d1) Came cursor found files d1.seen d2) → OnOk result (AreSentOut is_true Own outbound own (IsOnDisk d0) Comes cursor found files d0.seen d2)
  looked_sent (Ok done) sent =
      let at : AreSentOut is_true Own outbound own (IsOnDisk d1) Came cursor found files d0.seen d2 =
      subst (λ (f : Files). AreSentOut is_true Own outbound own (IsOnDisk d1) Came cursor found files f d2) (same_seen d0 d1 quiet) sent in
      record {
        all = at.all;
        between = at.between;
        ended = at.ended;
        staging_them = at.staging_them;
        free = at.free;
        packets = at.packets;
        gone = at.gone;
        shown = comes d2.seen at.shown;
        on_disk = λ c left. comes c (at.on_disk c left);
        others = at.others;
        bytes = at.bytes;
        settled = at.settled;
        still = λ m other on. at.still m other (looked_on m on);
      }
  looked_sent (Err cause) sent = tt

-- then the packets were sent out
pub looked_out : {D : Type 0} (state : D → DiskState) (Own : List ℕ → Type 0) (outbound own : List ℕ) (Stays Comes Stayed Came : Files → Type 0) (cursor : ℕ) (files : List PacketFile) (d0 d1 d2 : DiskState) → ChangesNothing d0 d1
    → ((c : Files) → Stayed c → Stays c) → ((c : Files) → Came c → Comes c) → ((c : Files) → d0.may_leave c → Stays c) → (IsTrue : Files → Type 0) (some failed : Type 0) → (some → failed) → (result : Result (Unit {0}) ScanError)
    → SendsOut state (IsTrue d1.seen) some Own outbound own Stayed Came cursor files d1 d2 result → SendsOut state (IsTrue d0.seen) failed Own outbound own Stays Comes cursor files d0 d2 result
looked_out state Own outbound own Stays Comes Stayed Came cursor files d0 d1 d2 quiet stays comes stood IsTrue some failed wider result sends =
    let found = sends.found in
    let seen = same_seen d0 d1 quiet in
    record {
      found = found;
      each = subst (λ (f : Files). All (IsLeftOf (IsTrue f) Own outbound own) found) seen sends.each;
      sent = subst (λ (f : Files). OnOk result (AreSentOut (IsTrue f) Own outbound own (IsOnDisk d0) Comes cursor found files d0.seen d2)) seen
          (looked_sent Own outbound own Stays Comes Stayed Came cursor files d0 d1 d2 quiet stays comes stood found (IsTrue d1.seen) result sends.sent);
      crash = subst (λ (f : Files). LeavesOnly d0 d2 (λ c. OneStepOn (PreparesScan outbound own Stays cursor found files) d0 c ⊎ CommitsScan (IsTrue f) Own outbound own (IsOnDisk d0) Stays Comes cursor found files d0.seen c)) seen
          (looked_moments Own outbound own Stays Comes Stayed Came cursor files d0 d1 d2 quiet stays comes stood found (IsTrue d1.seen) sends.crash);
      why = put_wider some failed _ _ _ result wider (λ taken. subst (IsTaken Own outbound own cursor found files) seen taken) sends.why;
      left =
          tells_as _ _ _ _ _ _ _ _ (stays d2.seen) (λ none m at other. ⊎_elim (λ gone. inl gone) (λ same. inr (same ∙ quiet.seen m)) (none m at other))
          (comes d2.seen) (λ all. all) result sends.left;
      tried =
          ⊎_elim (λ (still : (c : Files) → d2.may_leave c → Stayed c). inl (λ c left. stays c (still c left)))
          (λ (was : WasTriedFor state Own outbound own files d1). inr (tried_before state Own outbound own files d0 d1 (λ m out. quiet.seen m) was)) sends.tried;
    }

-- or the scan stopped
pub looked_stop : (Own : List ℕ → Type 0) (outbound own : List ℕ) (Stays Stayed : Files → Type 0) (cursor : ℕ) (files : List PacketFile) (d0 d1 d2 : DiskState) → ChangesNothing d0 d1 → ((c : Files) → Stayed c → Stays c) → ((c : Files) → d0.may_leave c → Stays c)
    → (IsTrue : Files → Type 0) (some failed : Type 0) → (some → failed) → (why : CommandError) (result : Result (Unit {0}) ScanError) → StopsScan (IsTrue d1.seen) some Own outbound own Stayed cursor files d1 d2 why result
    → StopsScan (IsTrue d0.seen) failed Own outbound own Stays cursor files d0 d2 why result
looked_stop Own outbound own Stays Stayed cursor files d0 d1 d2 quiet stays stood IsTrue some failed wider why result stops =
    let found = stops.found in
    let seen = same_seen d0 d1 quiet in
    record {
      found = found;
      each = subst (λ (f : Files). All (IsLeftOf (IsTrue f) Own outbound own) found) seen stops.each;
      crash =
          then_run d0 d1 d2 (OneStepOn (PreparesScan outbound own Stays cursor found files) d0) (OneStepOn (PreparesScan outbound own Stayed cursor found files) d1)
          (weaker_run d0 d1 d0.may_leave (OneStepOn (PreparesScan outbound own Stays cursor found files) d0) quiet.run
          (λ c left. (c, left, record { between = c; ends = finishes_none cursor found c; writes = λ m other. refl; represented = stood c left })))
          stops.crash
          (λ c step. (step.0, quiet.no_more step.0 step.1, record { between = step.2.between; ends = step.2.ends; writes = step.2.writes; represented = stays c step.2.represented }));
      shown = stays d2.seen stops.shown;
      others = λ m other. stops.others m other ∙ quiet.seen m;
      reported =
          ⊎_elim (λ reported. inl (reported.0, λ m of. ⊎_elim (λ none. inl none) (λ same. inr (same ∙ quiet.seen m)) (reported.1 m of)))
          (λ reported. inr (reported.0, reported.1, put_wider some failed ⊥ ⊥ ⊥ (Err (Staying reported.0)) wider (λ none. none) reported.2)) stops.reported;
    }
