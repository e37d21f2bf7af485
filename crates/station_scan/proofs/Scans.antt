-- A scan of a store.
use Rattle.{std.{proofs.Common.{ℕ, List, [], Result, ⊎_elim, arith, inl, inr, refl, subst, sym}, specs.Prelude.{Err, IsErrOf}}, base_file.specs.Base.Base}
use Rattle.{disk_io.{specs.{Disk.{DiskState, Files}, Runs.ChangesNothing}, proofs.Moments.weaker_run}, echo_links.specs.Links.LinkFile}
use Rattle.{disk_atomic.specs.StagingPaths.dotted, cmd_status.specs.Devices.Output, model_steps.specs.{PacketFiles.PacketFile, declared.stamp.Stamp.Stamp}}
use Rattle.base_store.{specs.{Store.{IsSameStore, StoreState}, declared.store_error.StoreError.TheVariants.Damaged}, proofs.Runs.same_twice}
use Rattle.{cmd_store.specs.{Scanned.ScansOn, declared.command_error.CommandError.{CommandError, TheVariants.Store}}, echo_steps.specs.PacketsIn.state_in}
use Rattle.station_scan.specs.{Publishing.KeepsStoreBut, Scanning.{IsPutOn, IsTouched, ScansOnStore, StopsScan}, declared.scan_error.ScanError.ScanError}
use Rattle.station_scan.{specs.declared.scan_error.ScanError.TheVariants.Command, proofs.Published.{keeps_nothing, keeps_then, keeps_wider}}
use Rattle.station_scan.proofs.{Lefts.finishes_none, Looked.{looked_out, looked_stop, same_seen}}

-- it stopped, and nothing was written
pub stops_quiet : (is_true failed : Type 0) (Own : List ℕ → Type 0) (outbound own : List ℕ) (cursor : ℕ) (files : List PacketFile) (s1 : StoreState) (new : DiskState) (base : Base) (why : CommandError)
    → s1.disk.is_honest → s1.is_ready → s1.committed base → ChangesNothing s1.disk new → StopsScan is_true failed Own outbound own (s1.represented base) cursor files s1.disk new why (Err (Command why))
stops_quiet is_true failed Own outbound own cursor files s1 new base why honest ready is quiet = record {
  found = [];
  each = λ k z lt. absurd (omega (arith, lt));
  crash =
      weaker_run s1.disk new s1.disk.may_leave _ quiet.run
      (λ c left. (c, left, record { between = c; ends = finishes_none cursor [] c; writes = λ m other. refl; represented = s1.stays honest ready base is c left }));
  shown = subst (λ (c : Files). s1.represented base c) (sym (same_seen s1.disk new quiet)) (s1.shown honest ready base is);
  others = λ m other. quiet.seen m;
  reported = inl (refl, λ m of. inr (quiet.seen m));
}

pub scans_stopped : {D : Type 0} (state : D → DiskState) (stamp : Stamp) (Own : List ℕ → Type 0) (outbound : List ℕ) (IsTrue : Files → Type 0) (failed : Type 0) (s1 s2 : StoreState) (out now : Output) (file : LinkFile) (base : Base) (why : CommandError) → s1.disk.is_honest → s1.is_ready
    → s1.committed base → ChangesNothing s1.disk s2.disk → ScansOn stamp (state_in file base) out now (Err why) → (IsErrOf {T = Unit {0}} (Err (Command why)) (Command (Store Damaged)) → ⊥)
    → ScansOnStore state stamp Own outbound IsTrue failed s1 s2 out now file base (Err (Command why))
scans_stopped state stamp Own outbound IsTrue failed s1 s2 out now file base why honest ready is quiet answer whole = record {
  made = Err why;
  answer = answer;
  put = stops_quiet (IsTrue s1.disk.seen) failed Own outbound (dotted file.system) base.cursor _ s1 s2.disk base why honest ready is quiet;
  whole = whole;
}

-- as the packets are put, before the cursor was moved
put_moved : {D : Type 0} (state : D → DiskState) (Own : List ℕ → Type 0) (outbound own : List ℕ) (IsTrue : Files → Type 0) (some failed : Type 0) → (some → failed) → (s1 sA s2 : StoreState) (base : Base) (packets : List PacketFile) (made : Result (List PacketFile) CommandError)
    (result : Result (Unit {0}) ScanError) → IsSameStore s1 sA → ChangesNothing s1.disk sA.disk → ((c : Files) → sA.represented base c → s1.represented base c) → ((c : Files) → s1.disk.may_leave c → s1.represented base c)
    → IsPutOn state Own outbound own IsTrue some sA s2 base packets made result → IsPutOn state Own outbound own IsTrue failed s1 s2 base packets made result
put_moved state Own outbound own IsTrue some failed h1 s1 sA s2 base packets made result h2 h3 h4 h5 h6 = grind (arith, looked_out, looked_stop)

-- the same of a scan once its cursor was moved
pub scans_moved : {D : Type 0} (state : D → DiskState) (stamp : Stamp) (Own : List ℕ → Type 0) (outbound : List ℕ) (IsTrue : Files → Type 0) (some failed : Type 0) → (some → failed) → (s1 sA s2 : StoreState) (out now : Output) (file : LinkFile) (base : Base) (result : Result (Unit {0}) ScanError)
    → s1.disk.is_honest → s1.is_ready → s1.committed base → IsSameStore s1 sA → ChangesNothing s1.disk sA.disk → ScansOnStore state stamp Own outbound IsTrue some sA s2 out now file base result
    → ScansOnStore state stamp Own outbound IsTrue failed s1 s2 out now file base result
scans_moved state stamp Own outbound IsTrue some failed wider s1 sA s2 out now file base result honest ready is same quiet scans = grind (arith, put_moved)

-- and what it touched
pub moved_keeps : (outbound : List ℕ) (s1 sA s2 : StoreState) → IsSameStore s1 sA → ChangesNothing s1.disk sA.disk → KeepsStoreBut (IsTouched sA.is_own outbound) sA s2 → KeepsStoreBut (IsTouched s1.is_own outbound) s1 s2
moved_keeps outbound s1 sA s2 same quiet kept = grind (arith, same_twice, keeps_then, keeps_nothing, keeps_wider, ⊎_elim)
