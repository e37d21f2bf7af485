-- Leftover packets are finished, and then the packets of a scan are put in place.
use Rattle.std.proofs.Common.{◌≡◌, ◌⊎◌, inl, inr, ⊎_elim, ◌∙◌, ◌<◌, ℕ, List, [], ◌++◌, Result, Ok, Err, refl, sym, subst, append_assoc, arith}
use Rattle.{std.{proofs.lemmas.List.{append_cancel_left, Elements.All-contains}, specs.Prelude.{All, IfErr, IsErrOf, None}}, base_file.specs.Base.Base}
use Rattle.{disk_io.{specs.{Disk.{DiskState, Files}, Runs.ChangesNothing}, proofs.Moments.{then_nothing, weaker_run}}, disk_atomic.specs.Finishing.IsOfLeft}
use Rattle.disk_atomic.specs.{StagingPaths.dotted, ListStaged.IsNameByte, declared.{finishing.Left.Left, placing_error.PlacingError.PlacingError}}
use Rattle.{cmd_status.specs.Devices.Output, cmd_store.specs.{Scanned.ScansOn, Stops.store_answer, declared.command_error.CommandError.CommandError}}
use Rattle.{echo_steps.specs.PacketsIn.state_in, model_steps.specs.PacketFiles.PacketFile, base_store.specs.Store.{StoreState, all_scanned}}
use Rattle.{station.specs.Beneath.IsUsedAt, station_scan.specs.{Scanning.{IsPutOn, IsTaken, ScansOnStore, SendsOut, StopsScan, packets_in}, Fitting.AreTaken}}
use Rattle.station_scan.specs.Moved.{IsMoved, IsPutFrom, ScansFrom, StopsFrom, files_reported, from_number, left_cause, left_reported, reported_as}
use Rattle.station_scan.specs.{Left.{AreFreeLeft, EndsLeft, IsLeftOf, IsOfNameOff}, Sending.IsStagingOfPacket, Sends.{IsLeftAs, WasTriedFor}}
use Rattle.station_scan.specs.{Stops.{IsOfPlacing, most}, declared.{pieces.ScanSource.ScanSource, scan_error.ScanError.ScanError}}
use Rattle.station_scan.specs.declared.{scan_error.ScanError.TheVariants.{Command, Placing, Staying}, sending.Sending.Sending}
use Rattle.station_scan.proofs.{Outs.{is_ended, not_sent, sends_out, stopped_crash, stopped_only}, Reports.{reported_whole, reports_wider}, Lefts.finishes_none}
use Rattle.station_scan.proofs.{Lists.among, Looked.same_seen, Names.{ending, not_staging, trial_no_path}, Scans.stops_quiet, Stops.{put_wider, tells_none}}
use Rattle.disk_atomic.specs.declared.placing_error.PlacingError.TheVariants as placing
use Rattle.base_store.specs.declared.store_error.StoreError.TheVariants as error

-- a staging path is no packet's path
path_not_staging : (outbound own : List ℕ) (files : List PacketFile) (m n : List ℕ) → IsStagingOfPacket outbound own files m → All IsNameByte n → m ≡ outbound ++ n → ⊥
path_not_staging outbound own files m n (inl (sent, has, plain, at)) is e = not_staging own n sent.name is (append_cancel_left outbound n (sent.name ++ ending own) (sym e ∙ at ∙ append_assoc outbound sent.name (ending own)))
path_not_staging outbound own files m n (inr at) is e = trial_no_path outbound own n is (sym at ∙ e)

-- ---- leftover packets were finished

module _ (Own : List ℕ → Type 0) (to : Sending) (own_is : to.own.now ≡ dotted to.source.links.now.system) (IsTrue : Files → Type 0) (failed : Type 0) (s0 s1 : StoreState) (inside : (m : List ℕ) → s0.is_own m → Own m)
    (used : IsUsedAt (IsOfNameOff Own to.outbound.now to.own.now) s0 s1) (honest0 : s0.disk.is_honest) (base : Base) (moved : IsMoved s0 to.source.from base) (cursor : ℕ) (at : cursor ≡ to.source.from) where
  abbrev outbound : List ℕ
  outbound = to.outbound.now

  abbrev own : List ℕ
  own = to.own.now

  abbrev packets : List PacketFile
  packets = packets_in to.source.stamp to.source.links.now base

  abbrev is_true : Type 0
  is_true = IsTrue s0.disk.seen

  same_cursor : cursor ≡ base.cursor
  same_cursor = at ∙ moved.at

  -- the store holds what it held
  pub moved_still : IsMoved s1 to.source.from base
  moved_still = record { ready = used.holds.ready; keeps = used.holds.keeps (all_scanned base) moved.keeps; committed = used.holds.committed base moved.committed; at = moved.at }

  put_as : {D : Type 0} (state : D → DiskState) (s2 : StoreState) (made : Result (List PacketFile) CommandError) (result : Result (Unit {0}) ScanError) → IsPutOn state Own outbound own IsTrue failed s0 s2 base packets made result
      → IsPutOn state Own outbound (dotted to.source.links.now.system) IsTrue failed s0 s2 base packets made result
  put_as state s2 made result put = subst (λ (o : List ℕ). IsPutOn state Own outbound o IsTrue failed s0 s2 base packets made result) own_is put

  module _ (ends : EndsLeft is_true Own outbound own cursor s0.disk s1.disk (Ok tt)) (s2 : StoreState) (honest2 : s2.disk.is_honest) where
    abbrev found : List Left
    found = ends.found

    -- it is reported of each staging file as it was before the leftover packets were finished
    gone_or_was : (files : List PacketFile) (m : List ℕ) → IsStagingOfPacket outbound own files m → (s2.disk.seen m ≡ None) ⊎ (s2.disk.seen m ≡ s1.disk.seen m) → (s2.disk.seen m ≡ None) ⊎ (s2.disk.seen m ≡ s0.disk.seen m)
    gone_or_was files m of (inl none) = inl none
    gone_or_was files m of (inr same) = elim (among (λ (l : Left). l.staging.now) m found) [
      | inl left ↦ grind (arith, All-contains, is_ended)
      | inr none ↦ inr (same ∙ ends.changes.seen m (λ is.
          ⊎_elim (λ (e : m ≡ is.0.staging.now). All-contains (λ (l : Left). m ≡ l.staging.now → ⊥) found is.0 none is.1 e)
          (λ (e : m ≡ is.0.path.now).
          let like = All-contains (IsLeftOf is_true Own outbound own) found is.0 ends.each is.1 in
          path_not_staging outbound own files m like.0 of like.1.plain (e ∙ like.1.path)) is.2))
    ]

    stops_put : (some : Type 0) → (some → failed) → (files : List PacketFile) (why : CommandError) (result : Result (Unit {0}) ScanError) → StopsFrom outbound own some s1 s2 base files why result
        → StopsScan is_true failed Own outbound own (s0.represented base) cursor files s0.disk s2.disk why result
    stops_put some wider files why result stops = record {
      found = found;
      each = ends.each;
      crash = stopped_crash Own outbound own is_true failed cursor files s0 s1 inside used moved.ready honest0 base (all_scanned base) moved.committed (Ok tt) ends s2 stops.crash;
      shown = (used.same.represented base s2.disk.seen).0 stops.shown;
      others = λ m other. stops.others m (λ of. other (inr of)) ∙ ends.changes.seen m (λ of. other (inl of));
      reported = ⊎_elim (λ reported. inl (reported.0, λ m of. gone_or_was files m of (reported.1 m))) (λ reported. inr reported) (reports_wider some failed s1.disk.seen s2.disk.seen why result wider stops.reported);
    }

    module _ {D : Type 0} (state : D → DiskState) (some : Type 0) (wider : some → failed) (out now : Output) (result : Result (Unit {0}) ScanError) where
      put_made : (made : Result (List PacketFile) CommandError) → IsPutFrom state Own outbound own some s1 s2 base packets made result → IsPutOn state Own outbound own IsTrue failed s0 s2 base packets made result
      put_made (Ok files) put =
          subst (λ (n : ℕ). SendsOut state is_true failed Own outbound own (s0.represented base) (s0.represented (all_scanned base)) n files s0.disk s2.disk result) same_cursor
          (sends_out Own outbound own is_true failed cursor files s0 s1 inside used moved.ready honest0 base (all_scanned base) moved.committed ends s2 honest2 put.keeps moved.keeps state (λ b. files) refl result put.free put.sent put.crash
          (subst (λ (n : ℕ). IfErr result (IsOfPlacing failed (AreTaken Own outbound own files s1.disk.seen) (most < n))) (sym same_cursor)
          (put_wider some failed (AreTaken Own outbound own files s1.disk.seen) (AreTaken Own outbound own files s1.disk.seen) (most < base.cursor) result wider (λ t. t) put.why)) put.left put.tried)
      put_made (Err why) put = subst (λ (n : ℕ). StopsScan is_true failed Own outbound own (s0.represented base) n packets s0.disk s2.disk why result) same_cursor (stops_put some wider packets why result put)

      pub scans_put : ScansFrom state Own to some s1 s2 out now base result → ScansOnStore state to.source.stamp Own outbound IsTrue failed s0 s2 out now to.source.links.now base result
      scans_put scans = record { made = scans.made; answer = scans.answer; put = put_as state s2 scans.made result (put_made scans.made scans.put); whole = scans.whole }

  -- they were not, and the lines were printed or not
  module _ (cause : PlacingError) (result1 : Result (Unit {0}) PlacingError) (ends : EndsLeft is_true Own outbound own cursor s0.disk s1.disk result1) (s2 : StoreState) (quiet : ChangesNothing s1.disk s2.disk) (honest1 : s1.disk.is_honest)
      (device : cause ≡ placing.Device → failed) (taken : cause ≡ placing.Taken → AreFreeLeft Own outbound own s0.disk.seen → ⊥) where
    left_shown : s0.represented base s2.disk.seen
    left_shown = (used.same.represented base s2.disk.seen).0 (subst (λ (f : Files). s1.represented base f) (sym (same_seen s1.disk s2.disk quiet)) (s1.shown honest1 used.holds.ready base (used.holds.committed base moved.committed)))

    left_sends : {D : Type 0} (state : D → DiskState) → SendsOut state is_true failed Own outbound own (s0.represented base) (s0.represented (all_scanned base)) cursor packets s0.disk s2.disk (Err (Placing cause))
    left_sends state =
        let before = not_sent Own outbound own is_true failed cursor packets s0 s1 inside used moved.ready honest0 base (all_scanned base) moved.committed result1 ends state honest1 cause device taken in
        record {
          found = before.found;
          each = before.each;
          sent = tt;
          crash = then_nothing s0.disk s1.disk s2.disk _ before.crash quiet;
          why = before.why;
          left = subst (λ (f : Files). IsLeftAs outbound own (s0.represented base) (s0.represented (all_scanned base)) (IsOfLeft before.found) packets s0.disk.seen f (Placing cause)) (sym (same_seen s1.disk s2.disk quiet)) before.left;
          tried = ⊎_elim (λ (stays : (c : Files) → s1.disk.may_leave c → s0.represented base c). inl (λ c left. stays c (quiet.no_more c left))) (λ (was : WasTriedFor state Own outbound own packets s0.disk). inr was) before.tried;
        }

    left_why : (stop : CommandError) → (IsErrOf (store_answer {A = Unit {0}} (Err stop)) error.Device → failed) → (why : PlacingError) → why ≡ cause → IsOfPlacing failed ⊥ ⊥ (Staying (left_cause why stop))
    left_why stop h1 why h2 = grind arith

    left_stops : (stop : CommandError) → (IsErrOf (store_answer {A = Unit {0}} (Err stop)) error.Device → failed) → StopsScan is_true failed Own outbound own (s0.represented base) cursor packets s0.disk s2.disk stop (Err (Staying (left_cause cause stop)))
    left_stops stop device_of = record {
      found = ends.found;
      each = ends.each;
      crash =
          then_nothing s0.disk s1.disk s2.disk _ (stopped_only Own outbound own is_true failed cursor packets s0 s1 inside used moved.ready honest0 base (all_scanned base) moved.committed result1 ends) quiet;
      shown = left_shown;
      others = λ m other. quiet.seen m ∙ ends.changes.seen m (λ of. other (inl of));
      reported = inr (left_cause cause stop, refl, left_why stop device_of cause refl);
    }

    pub scans_left : {D : Type 0} (state : D → DiskState) (out now : Output) (reported : Result (Unit {0}) CommandError) → ScansOn to.source.stamp (state_in to.source.links.now (from_number to.source.from base)) out now (files_reported to.source (all_scanned base) reported)
        → (IsErrOf (store_answer reported) error.Device → failed) → ScansOnStore state to.source.stamp Own outbound IsTrue failed s0 s2 out now to.source.links.now base (left_reported cause reported)
    scans_left state out now reported h1 h2 = grind (arith, put_as, same_cursor, left_sends, left_stops)

-- ---- it stopped before

-- the lines were printed or not, and nothing else was done
pub scans_early : {D : Type 0} (state : D → DiskState) (Own : List ℕ → Type 0) (outbound : List ℕ) (source : ScanSource) (IsTrue : Files → Type 0) (failed : Type 0) (s0 s2 : StoreState) (base : Base) (out now : Output) (why : ScanError) (reported : Result (Unit {0}) CommandError)
    → IsMoved s0 source.from base → s0.disk.is_honest → ChangesNothing s0.disk s2.disk → ((e : CommandError) → why ≡ Command e → ⊥)
    → IsOfPlacing failed (IsTaken Own outbound (dotted source.links.now.system) base.cursor [] (packets_in source.stamp source.links.now base) s0.disk.seen) (most < base.cursor) why
    → ScansOn source.stamp (state_in source.links.now (from_number source.from base)) out now (files_reported source (all_scanned base) reported) → (IsErrOf (store_answer reported) error.Damaged → ⊥)
    → ScansOnStore state source.stamp Own outbound IsTrue failed s0 s2 out now source.links.now base (reported_as why reported)
scans_early state Own outbound source IsTrue failed s0 s2 base out now why (Ok done) moved honest quiet not is answer whole = record {
  made = Ok (packets_in source.stamp source.links.now base);
  answer = subst (λ (n : ℕ). ScansOn source.stamp (state_in source.links.now (from_number n base)) out now (Ok (packets_in source.stamp source.links.now (from_number n base)))) moved.at answer;
  put = record {
    found = [];
    each = λ k z lt. absurd (omega (arith, lt));
    sent = tt;
    crash =
        weaker_run s0.disk s2.disk s0.disk.may_leave _ quiet.run
        (λ c left. inl (c, left, record { between = c; ends = finishes_none base.cursor [] c; writes = λ m other. refl; represented = s0.stays honest moved.ready base moved.committed c left }));
    why = is;
    left = tells_none _ _ _ _ why (subst (λ (f : Files). s0.represented base f) (sym (same_seen s0.disk s2.disk quiet)) (s0.shown honest moved.ready base moved.committed)) (λ m at other. inr (quiet.seen m));
    tried = inl (λ c left. s0.stays honest moved.ready base moved.committed c (quiet.no_more c left));
  };
  whole = reported_whole why (Ok done) not whole;
}
scans_early state Own outbound source IsTrue failed s0 s2 base out now why (Err stop) moved honest quiet not is answer whole = record {
  made = Err stop;
  answer = subst (λ (n : ℕ). ScansOn source.stamp (state_in source.links.now (from_number n base)) out now (Err stop)) moved.at answer;
  put = stops_quiet (IsTrue s0.disk.seen) failed Own outbound (dotted source.links.now.system) base.cursor _ s0 s2.disk base stop honest moved.ready moved.committed quiet;
  whole = reported_whole why (Err stop) not whole;
}
