-- A scan once its cursor was moved: packets are sent out after a pass over the messages.
use Rattle.std.proofs.Common.{◌≡◌, ◌⊎◌, inl, inr, ⊎_elim, ◌∙◌, ◌<◌, ℕ, List, [], Result, Ok, Err, get_or, length, sym, subst, ap, arith}
use Rattle.std.proofs.lemmas.{Result.on_ok_weaker, Bool.cases_lt, List.{append-nil, length-map, Elements.{All-contains, Contains-get_or}}}
use Rattle.{std.specs.Prelude.{All, IfErr, IsErrOf, None, OnOk}, disk_atomic.{proofs.Whole.on_ok_any, specs.Changes.DifferAt}}
use Rattle.disk_atomic.specs.{Outgoing.{IsAtStaging, IsFilled, IsFree}, Trying.WasTried, declared.outgoing.Outgoing.Outgoing}
use Rattle.{disk_atomic.specs.declared.placing_error.PlacingError.PlacingError, base_file.specs.Base.Base, disk_io.specs.Device.Failed}
use Rattle.disk_io.{specs.{Disk.{DiskState, Files}, Runs.{LeavesOnly, OneStepOn}}, proofs.Moments.{left_now, then_run, weaker_run}}
use Rattle.{model_steps.specs.PacketFiles.PacketFile, base_store.specs.Store.{Commits, IsSameStore, LeavesEither, MayCommit, StoreState, all_scanned}}
use Rattle.{base_store.proofs.Runs.same_twice, echo_steps.specs.{Counts.link_set, Exports.OutgoingMessage as Sent}}
use Rattle.{station.specs.Beneath.{HoldsAsBefore, IsUsedAt}, station_scan.specs.declared.{scan_error.ScanError.TheVariants.Staying, sending.Sending.Sending}}
use Rattle.station_scan.specs.Passing.{AreFor, AreGrowing, CanSend, HasPassed, IsGrowingTo, IsStagingTo, all_sent, is_made, links_to}
use Rattle.station_scan.specs.Publishing.{AreGone, ArePublished, HasPublishCause, IsFreeIn, IsGoingAt, IsPublishedAt, IsTriedWith, KeepsStoreBut, MayPublish, PublishesOn, StopsPublishing, ended_before, no_files}
use Rattle.station_scan.specs.Sending.{HasBytes, IsAtItsPath, IsFreeAt, IsOfPacket, IsStagingGone, IsStagingOfPacket, IsStagingOn, IsWhole, IsWholeAlone, for_address}
use Rattle.station_scan.specs.{Sends.{AreSentOn, IsLeftAs, IsOfThese, SendsThese, WasTriedFor, WritesStaging}, Moved.{IsMoved, SendsFrom}, Fitting.AreTaken}
use Rattle.station_scan.specs.{Left.IsOfNameOff, Scanning.packets_in, Stops.{IsOfBase, IsOfPlacing, most, scan_done}}
use Rattle.station_scan.specs.declared.{publish_error.PublishError.{PublishError, TheVariants.Packets}, counting.LinkPacket.LinkPacket}
use Rattle.station_scan.proofs.Files.{are_filled, are_whole, at_its_path, content_of, ended_has, file_to, files_are, files_bytes, files_to, growing_free, have_none, none_left, none_staging, of_packet, same_files, staging_files, staging_on, staging_packet}
use Rattle.station_scan.proofs.Published.{bytes_as, commits_used, filled_as, holds_still, keeps_only, keeps_then, keeps_wider, path_as, store_wider, whole_as}
use Rattle.station_scan.proofs.{Lists.kept_passes, Routes.{address_for, path_off, staging_at, staging_named}, Staged.tried_after}
use Rattle.station_scan.proofs.Stops.{sent_why, tells_alone, tells_published}
use Rattle.disk_io.specs.declared.disk_error.DiskError.TheVariants as disk
use Rattle.disk_atomic.specs.declared.placing_error.PlacingError.TheVariants as placing

-- ---- staging files are written, and then the packets are sent

module _ (outbound own : List ℕ) (files : List PacketFile) (few : List ℕ → Type 0) (into : (m : List ℕ) → few m → IsStagingOfPacket outbound own files m) (s0 s1 : StoreState) (used : IsUsedAt few s0 s1) (ready : s0.is_ready)
    (honest : s0.disk.is_honest) (first next : Base) (was : s0.committed first) (off : (m : List ℕ) → s0.is_own m → few m → ⊥) where
  pub writes_before : LeavesOnly s0.disk s1.disk (WritesStaging s0 outbound own files first)
  writes_before =
      weaker_run s0.disk s1.disk (OneStepOn (DifferAt few) s0.disk) (WritesStaging s0 outbound own files first) used.changes.any_moment
      (λ c step. record {
        writes = (step.0, step.1, λ m other. step.2 m (λ at. other (into m at)));
        represented = used.settled first step.0 c (λ m o. step.2 m (off m o)) (s0.stays honest ready first was step.0 step.1);
      })

  abbrev May : Files → Type 0
  May c = SendsThese s0 outbound own files first next c

  pub sends_before : LeavesOnly s0.disk s1.disk May
  sends_before = weaker_run s0.disk s1.disk (WritesStaging s0 outbound own files first) May writes_before (λ c over. inl over)

  of_staging : (m : List ℕ) → IsStagingOfPacket outbound own files m → IsOfPacket outbound own files m
  of_staging m h2 = grind arith

  not_these : (m : List ℕ) → (IsOfThese s0.is_own outbound own files m → ⊥) → IsStagingOfPacket outbound own files m → ⊥
  not_these m other at = other (inr (of_staging m at))

  later : (c : Files) → SendsThese s1 outbound own files first next c → May c
  later c (inl over) =
      let step = left_now s0.disk s1.disk (OneStepOn (DifferAt few) s0.disk) used.changes.any_moment over.writes.0 over.writes.1 in
      inl (record { writes = (step.0, step.1, λ m other. over.writes.2 m other ∙ step.2 m (λ at. other (into m at))); represented = (used.same.represented first c).0 over.represented })
  later c (inr with) = inr (grind (arith, not_these, into))

  -- only these paths are touched
  pub few_keeps : KeepsStoreBut (IsOfThese s0.is_own outbound own files) s0 s1
  few_keeps = grind (arith, keeps_wider, of_staging, into, keeps_only)

  pub keeps_these : (s2 : StoreState) → KeepsStoreBut (IsOfThese s1.is_own outbound own files) s1 s2 → KeepsStoreBut (IsOfThese s0.is_own outbound own files) s0 s2
  keeps_these s2 kept = grind (arith, kept, same_twice, keeps_then, few_keeps, keeps_wider, ⊎_elim)

  pub sends_then : (s2 : StoreState) → LeavesOnly s1.disk s2.disk (SendsThese s1 outbound own files first next) → LeavesOnly s0.disk s2.disk May
  sends_then s2 run = then_run s0.disk s1.disk s2.disk May (SendsThese s1 outbound own files first next) sends_before run later

of_base_alone : (done : Result (Unit {0}) PublishError) (cause : PlacingError) → IfErr done IsOfBase → IsErrOf done (Packets cause) → ⊥
of_base_alone done cause h1 h2 = grind arith

on_ok_done : (P : Type 0) (done : Result (Unit {0}) PublishError) → OnOk done P → OnOk (scan_done done) P
on_ok_done P (Ok value) p = p
on_ok_done P (Err why) p = tt

module _ {D : Type 0} (state : D → DiskState) (Own : List ℕ → Type 0) (to : Sending) (failed : Type 0) (s0 s1 : StoreState) (links : List LinkPacket) (passed : HasPassed Own to s0 s1 links) (base : Base) (moved : IsMoved s0 to.source.from base)
    (can : CanSend Own to s1) (honest1 : s1.disk.is_honest) where
  abbrev next : Base
  next = all_scanned base

  abbrev out : List ℕ
  out = to.outbound.now

  abbrev own : List ℕ
  own = to.own.now

  honest0 : s0.disk.is_honest
  honest0 = passed.used.changes.honest honest1

  all_of : passed.sent ≡ all_sent to base
  all_of = passed.part.whole honest1 next moved.keeps

  abbrev files : List PacketFile
  files = packets_in to.source.stamp to.source.links.now base

  abbrev few : List ℕ → Type 0
  few = IsStagingTo to passed.sent

  files_of : files_to to base ≡ files
  files_of = sym (files_are to base moved.at)

  into : (m : List ℕ) → few m → IsStagingOfPacket out own files m
  into m at = subst (λ (l : List PacketFile). IsStagingOfPacket out own l m) files_of (staging_files to can.routes base passed.sent ([], append-nil passed.sent ∙ all_of) m at)

  named : (m : List ℕ) → few m → IsOfNameOff Own out own m
  named m at = staging_named Own to can.routes (is_made passed.sent) passed.fit m at

  off : (m : List ℕ) → s0.is_own m → few m → ⊥
  off m o at = (named m at).1 (can.own m ((passed.used.same.own m).1 o))

  kept : s1.keeps next
  kept = passed.used.holds.keeps next moved.keeps

  committed : s1.committed base
  committed = passed.used.holds.committed base moved.committed

  crash_then : (s2 : StoreState) → LeavesOnly s1.disk s2.disk (SendsThese s1 out own files base next) → LeavesOnly s0.disk s2.disk (SendsThese s0 out own files base next)
  crash_then s2 run = sends_then out own files few into s0 s1 passed.used moved.ready honest0 base next moved.committed off s2 run

  keeps_after : (s2 : StoreState) → KeepsStoreBut (IsOfThese s1.is_own out own files) s1 s2 → KeepsStoreBut (IsOfThese s0.is_own out own files) s0 s2
  keeps_after s2 kept_these = keeps_these out own files few into s0 s1 passed.used moved.ready honest0 base next moved.committed off s2 kept_these

  abbrev IsTaken : Type 0
  IsTaken = AreTaken Own out own files s0.disk.seen

  shown_still : s0.represented base s1.disk.seen
  shown_still = passed.used.settled base s0.disk.seen s1.disk.seen (λ m o. passed.used.changes.seen m (off m o)) (s0.shown honest0 moved.ready base moved.committed)

  -- there was no memory to end them
  pub sends_none : SendsFrom state Own out own failed s0 s1 base files (Err (Staying disk.Memory))
  sends_none = record {
    sent = tt;
    free = tt;
    crash = sends_before out own files few into s0 s1 passed.used moved.ready honest0 base next moved.committed off;
    keeps = few_keeps out own files few into s0 s1 passed.used moved.ready honest0 base next moved.committed off;
    why = tt;
    left = shown_still;
    tried = inl passed.used.holds;
  }

  module _ (packets : List Outgoing) (made_for : AreFor to (is_made passed.sent) packets) (s2 : StoreState) (honest2 : s2.disk.is_honest) (f1 f2 : ℕ) (done : Result (Unit {0}) PublishError) {S : Type 0} (stores : S → StoreState)
      (cause : HasPublishCause stores s1 s2 f1 f2 done) (is_failed : Failed f1 f2 → failed) where
    for : AreFor to (is_made (all_sent to base)) packets
    for = subst (λ (l : List Sent). AreFor to (is_made l) packets) all_of made_for

    many : length packets ≡ length files
    many = sym (length-map packets (λ (p : Outgoing). file_to to base p.to)) ∙ ap length (same_files to can.routes base packets for ∙ files_of)

    why_sent : (IsErrOf done (Packets placing.Taken) → IsTaken) → IfErr (scan_done done) (IsOfPlacing failed IsTaken (most < base.cursor))
    why_sent taken = grind (arith, sent_why, kept)

    -- there were none, and the store was committed
    pub sends_alone : length packets ≡ 0 → IfErr done IsOfBase → OnOk done (Commits s1 s2) → MayCommit s1 s2 → SendsFrom state Own out own failed s0 s2 base files (scan_done done)
    sends_alone none alone commits may =
        let nothing : (P : PacketFile → Type 0) → All P files = λ P k d lt. absurd (omega (arith, lt, none, many)) in
        record {
          sent = on_ok_done (AreSentOn out own (λ b. files) s0 s2) done (on_ok_weaker done (λ (c : Commits s1 s2). record {
            committed = commits_used few s0 s1 s2 passed.used c;
            packets = λ honest b kept. nothing (IsAtItsPath out s2.disk);
            gone = λ honest b kept. nothing (IsStagingGone out own s2.disk.seen);
            bytes = λ honest b kept. nothing HasBytes;
            settled = λ honest b kept. nothing (IsStagingOn out own s2.disk);
          }) commits);
          free = on_ok_done (All (IsFreeAt out s0.disk.seen) files) done (on_ok_any done (nothing (IsFreeAt out s0.disk.seen)));
          crash = crash_then s2 (weaker_run s1.disk s2.disk (LeavesEither s1 base next) (SendsThese s1 out own files base next) (may.any_moment honest2 base next committed kept)
              (λ c either. inr (record {
                others = λ m other on. either.others m (λ o. other (inl o)) on.0 on.1;
                either = ⊎_elim (λ represented. inl (represented, nothing (IsFreeAt out c))) (λ represented. inr (represented, nothing (IsWholeAlone out own c), nothing HasBytes)) either.represented;
              })));
          keeps = keeps_after s2 (record {
            same = may.same;
            keeps = record {
              seen = λ m other. may.others.seen m (λ o. other (inl o));
              named = λ m other is. may.others.named m (λ o. other (inl o)) is;
              flushed = λ m other is. may.others.flushed m (λ o. other (inl o)) is;
              alone = λ m other is. may.others.alone m (λ o. other (inl o)) is;
              honest = may.others.honest;
            };
          });
          why = why_sent (λ e. absurd (of_base_alone done placing.Taken alone e));
          left = tells_alone _ _ _ _ done alone (nothing (IsWhole out own s2.disk.seen));
          tried = inr (inl (sym many ∙ none));
        }

    abbrev content : Outgoing → List ℕ
    content = for_address (content_of to base)

    grows : All (IsGrowingTo to (all_sent to base) s1.disk) (links_to to (is_made (all_sent to base)))
    grows = subst (λ (l : List Sent). AreGrowing to l s1.disk) all_of passed.part.grows

    has : All (λ p. ended_before s1 next p ≡ content p) packets
    has = ended_has to can.routes base packets for s1.disk honest1 grows

    as_files : (P : List PacketFile → Type 0) → P (files_to to base) → P files
    as_files P is = subst P files_of is

    -- their paths were free before the pass
    free_first : All (IsFreeIn s0.disk.seen) packets
    free_first k z lt =
        let p = get_or packets k z in
        let linked = (kept_passes (is_made (all_sent to base)) (link_set to.source.links.now) p.to (address_for to (is_made (all_sent to base)) packets for p (Contains-get_or packets k z lt))).0 in
        sym (passed.used.changes.seen p.path.now (λ at. path_off to can.routes (is_made passed.sent) p.to linked (subst few (for.routed k z lt).path at))) ∙ growing_free to can.routes base packets for s1.disk honest1 grows k z lt

    sent_as : ArePublished (ended_before s1) packets s1 s2 → AreSentOn out own (λ b. files) s0 s2
    sent_as published =
        let at_path = path_as (ended_before s1 next) content packets has s2.disk (published.named honest2 next kept) in
        record {
          committed = commits_used few s0 s1 s2 passed.used published.committed;
          packets = λ honest b was. as_files (λ l. All (IsAtItsPath out s2.disk) l) (at_its_path to can.routes base packets for s2.disk at_path);
          gone = λ honest b was. as_files (λ l. All (IsStagingGone out own s2.disk.seen) l) (none_staging to can.routes base packets for s2.disk at_path);
          bytes = λ honest b was. as_files (λ l. All HasBytes l) (files_bytes to can.routes base packets for (bytes_as (ended_before s1 next) content packets has (published.bytes honest2 next kept)));
          settled = λ honest b was. as_files (λ l. All (IsStagingOn out own s2.disk) l) (staging_on to can.routes base packets for s2.disk (published.settled honest2));
        }

    moment : (c : Files) → PublishesOn s1 (ended_before s1 next) packets to.trial.now base next c → SendsThese s1 out own files base next c
    moment c (inl over) = inl (record {
      writes = (over.staged.0, over.staged.1, λ m other. over.staged.2 m (λ at. other (as_files (λ l. IsStagingOfPacket out own l m) (staging_packet to can.routes base packets for m at))));
      represented = over.represented;
    })
    moment c (inr with) = inr (record {
      others = λ m other on. with.others m (λ o. other (inl o)) (λ of. other (inr (as_files (λ l. IsOfPacket out own l m) (of_packet to can.routes base packets for m of)))) on;
      either =
          ⊎_elim (λ none. inl (none.0, as_files (λ l. All (IsFreeAt out c) l) (have_none to can.routes base packets for c none.1)))
          (λ all. inr (
            all.0,
            as_files (λ l. All (IsWholeAlone out own c) l) (are_whole to can.routes base packets for c (whole_as (ended_before s1 next) content packets has no_files c all.1)),
            as_files (λ l. All HasBytes l) (files_bytes to can.routes base packets for (bytes_as (ended_before s1 next) content packets has all.2)),
          )) with.either;
    })

    back : IsSameStore s1 s2 → (b : Base) (c : Files) → s2.represented b c → s0.represented b c
    back same b c represented = (passed.used.same.represented b c).0 ((same.represented b c).0 represented)

    left_none : AreGone packets to.trial.now s2.disk → (m : List ℕ) → IsStagingOfPacket out own files m → (⊥ → ⊥) → (s2.disk.seen m ≡ None) ⊎ (s2.disk.seen m ≡ s0.disk.seen m)
    left_none gone m (inl (sent, has_it, plain, at)) other =
        inl (ap s2.disk.seen at ∙ All-contains (IsStagingGone out own s2.disk.seen) files sent (as_files (λ l. All (IsStagingGone out own s2.disk.seen) l) (none_left to can.routes base packets for s2.disk.seen gone.0)) has_it)
    left_none gone m (inr at) other = inl (ap s2.disk.seen (at ∙ sym can.routes.tried) ∙ gone.1)

    left_whole : All (IsFilled (ended_before s1 next) s2.disk) packets → All (IsWhole out own s2.disk.seen) files
    left_whole all = as_files (λ l. All (IsWhole out own s2.disk.seen) l) (are_filled to can.routes base packets for s2.disk (filled_as (ended_before s1 next) content packets has s2.disk all))

    left_sent : IsSameStore s1 s2 → IfErr done (StopsPublishing (ended_before s1) packets to.trial.now s1 s2)
        → IfErr (scan_done done) (IsLeftAs out own (s0.represented base) (s0.represented next) (λ m. ⊥) files s0.disk.seen s2.disk.seen)
    left_sent same stops =
        tells_published _ _ _ _ (ended_before s1) packets to.trial.now s1 s2 next done kept (λ (h : HoldsAsBefore s1 s2). back same base s2.disk.seen (s2.shown honest2 h.ready base (h.committed base committed)))
        (λ (c : Commits s1 s2). back same next s2.disk.seen (s2.shown honest2 c.ready next (c.committed honest2 next kept))) left_none left_whole stops

    at_names : 0 < length packets → (m : List ℕ) → IsAtStaging packets to.trial.now m → IsOfNameOff Own out own m
    at_names some m at = named m (staging_at to (is_made passed.sent) packets made_for some m at)

    tried_first : IsTriedWith state packets to.trial.now s1.disk → WasTriedFor state Own out own files s0.disk
    tried_first (inl none) = inl (sym many ∙ none)
    tried_first (inr was) = elim (cases_lt 0 (length packets)) [
      | inl some ↦ inr (subst (λ (t : List ℕ). WasTried state (IsOfNameOff Own out own) t s0.disk) can.routes.tried
          (tried_after state (IsAtStaging packets to.trial.now) (IsOfNameOff Own out own) to.trial.now s0.disk s1.disk (at_names some) (λ m other. passed.used.changes.seen m (λ at. other (named m at))) was))
      | inr none ↦ inl (omega (arith, none, many))
    ]

    pub sends_published : OnOk done (ArePublished (ended_before s1) packets s1 s2) → MayPublish (ended_before s1) packets to.trial.now s1 s2 → KeepsStoreBut (IsPublishedAt s1 (IsGoingAt packets to.trial.now)) s1 s2
        → (IsErrOf done (Packets placing.Taken) → All (IsFree s1.disk) packets → ⊥) → HoldsAsBefore s1 s2 ⊎ IsTriedWith state packets to.trial.now s1.disk → IfErr done (StopsPublishing (ended_before s1) packets to.trial.now s1 s2)
        → SendsFrom state Own out own failed s0 s2 base files (scan_done done)
    sends_published published may keeps taken tried stops = record {
      sent = on_ok_done (AreSentOn out own (λ b. files) s0 s2) done (on_ok_weaker done sent_as published);
      free = on_ok_done (All (IsFreeAt out s0.disk.seen) files) done (on_ok_any done (as_files (λ l. All (IsFreeAt out s0.disk.seen) l) (have_none to can.routes base packets for s0.disk.seen free_first)));
      crash = crash_then s2 (weaker_run s1.disk s2.disk (PublishesOn s1 (ended_before s1 next) packets to.trial.now base next) (SendsThese s1 out own files base next) (may honest2 base next committed kept) moment);
      keeps = keeps_after s2 (store_wider (IsPublishedAt s1 (IsGoingAt packets to.trial.now)) (IsOfThese s1.is_own out own files) s1 s2
          (λ m is. ⊎_elim (λ o. inl o) (λ of. inr (as_files (λ l. IsOfPacket out own l m) (of_packet to can.routes base packets for m of))) is) keeps);
      left = left_sent keeps.same stops;
      why = why_sent (λ e. absurd (taken e (growing_free to can.routes base packets for s1.disk honest1 grows)));
      tried = ⊎_elim (λ (h : HoldsAsBefore s1 s2). inl (holds_still s0 s1 s2 passed.used.holds h)) (λ (was : IsTriedWith state packets to.trial.now s1.disk). inr (tried_first was)) tried;
    }
