-- A scan of a store that was opened, as one of the station.
use Rattle.std.{proofs.Common.{◌⊎◌, inl, inr, ⊎_elim, ◌∙◌, ℕ, List, Result, Ok, Err, refl, subst, sym, ◌++◌, arith}, specs.Prelude.{OnOk, get_or}}
use Rattle.{base_file.specs.Base.Base, disk_io.specs.{Disk.{DiskState, Files}, Runs.{ChangesNothing, LeavesOnly, OneStepOn}}}
use Rattle.{disk_io.proofs.Moments.{left_now, then_nothing, then_run, weaker_run}, echo_links.specs.Links.LinkFile}
use Rattle.{disk_atomic.specs.{Finishing.IsOfLeft, declared.finishing.Left.Left, StagingPaths.{dotted, staging_path}}, cmd_status.specs.Devices.Output}
use Rattle.{model_steps.specs.{PacketFiles.PacketFile, declared.stamp.Stamp.Stamp}, base_store.specs.Store.{StoreState, all_scanned}}
use Rattle.{cmd_store.specs.declared.command_error.CommandError.CommandError, station.specs.Beneath.AreSettledByOwn}
use Rattle.station.specs.{Place.{IsOfPlace, KeepsElsewhere, Place, RepresentsAlone, RepresentsOrWasLeft}, Opening.IsOpenFor}
use Rattle.station_scan.specs.Scanning.{AreSentOut, CommitsScan, IsPutAs, IsOnItsWay, IsPreparing, IsPutIn, IsPutOn, IsScanOn, IsTaken, IsTouched, IsTriedIn, MayLeave, PreparesScan, ScansOnStore, SendsOut, StopsScan, StopsScanIn, ReportsStop, packets_in}
use Rattle.station_scan.specs.{Fitting.AreFit, Left.{AreAllLeft, IsLeftOf}, Publishing.{IsOnDisk, UnchangedExcept, KeepsStoreBut}}
use Rattle.station_scan.{specs.{Sends.{IsOfThese, WasTriedFor}, declared.scan_error.ScanError.{ScanError, TheVariants.Staying}}, proofs.Lefts.finishes_none}
use Rattle.station_scan.proofs.{Looked.same_seen, Published.{keeps_nothing, keeps_then, keeps_wider}, Stops.{put_wider, tells_as}}

-- the same for another name of the same own paths
module _ (Own Own2 : List ℕ → Type 0) (out : (m : List ℕ) → Own2 m → Own m) (outbound own : List ℕ) where
  left_as : (is_true : Type 0) (l : Left) → IsLeftOf is_true Own outbound own l → IsLeftOf is_true Own2 outbound own l
  left_as is_true l (name, like, numbered) = grind arith

  all_left_as : (is_true : Type 0) (files : Files) (found : List Left) → ((m : List ℕ) → Own m → Own2 m) → AreAllLeft is_true Own outbound own files found → AreAllLeft is_true Own2 outbound own files found
  all_left_as is_true files found into all truth name before numbered to =
      all truth name before numbered (record {
        plain = to.plain;
        off = record { path = λ o. to.off.path (into _ o); staging = λ o. to.off.staging (into _ o) };
        there = to.there;
      })

  fit_as : (files : List PacketFile) → AreFit Own2 outbound own files → ((m : List ℕ) → Own m → Own2 m) → AreFit Own outbound own files
  fit_as files fit into = grind arith

  taken_as : (cursor : ℕ) (found : List Left) (files : List PacketFile) (seen : Files) → ((m : List ℕ) → Own m → Own2 m) → IsTaken Own outbound own cursor found files seen → IsTaken Own2 outbound own cursor found files seen
  taken_as cursor found files seen into (inl left) =
      inl (λ free. left (λ name to. free name (record { plain = to.plain; off = record { path = λ o. to.off.path (out _ o); staging = λ o. to.off.staging (out _ o) }; there = to.there })))
  taken_as cursor found files seen into (inr (between, ended, same, taken)) =
      inr (between, ended, same, ⊎_elim (λ held. inl held) (λ unfit. inr (λ fit. unfit (fit_as files fit into))) taken)

  these_as : (files : List PacketFile) → ((m : List ℕ) → Own m → Own2 m) → (m : List ℕ) → IsOfThese Own outbound own files m → IsOfThese Own2 outbound own files m
  these_as files into m of = ⊎_elim (λ o. inl (into m o)) (λ p. inr p) of

pub elsewhere_keeps : (place : Place) (outbound : List ℕ) (d0 d1 : DiskState) → KeepsElsewhere place d0 d1 → UnchangedExcept (IsTouched place.is_own outbound) d0 d1
elsewhere_keeps place outbound d0 d1 kept = grind arith

-- it was tried on the disk on which the store was opened, while the station's own files still held the base
tried_in : {D : Type 0} (state : D → DiskState) (place : Place) (d0 d2 : DiskState) (s1 s2 : StoreState) → IsOfPlace place d0 s1 → ChangesNothing s2.disk d2 → (Own : List ℕ → Type 0) → ((m : List ℕ) → place.is_own m → Own m) → AreSettledByOwn s1
    → (outbound own : List ℕ) (base : Base) → s1.represented base s1.disk.seen → (files : List PacketFile) → ((c : Files) → s2.disk.may_leave c → s1.represented base c) ⊎ WasTriedFor state Own outbound own files s1.disk
    → ((c : Files) → d2.may_leave c → place.represents base c) ⊎ IsTriedIn state place outbound own base files d0
tried_in state place d0 d2 s1 s2 of quiet Own in_own settled outbound own base shown files (inl still) = inl (λ c left. (of.represented base c).0 (still c (quiet.no_more c left)))
tried_in state place d0 d2 s1 s2 of quiet Own in_own settled outbound own base shown files (inr (inl none)) = inr (inl none)
tried_in state place d0 d2 s1 s2 of quiet Own in_own settled outbound own base shown files (inr (inr was)) =
    inr (inr (
      record {
        from = was.from;
        before = was.before;
        after = was.after;
        free = was.free;
        given = was.given;
        stays = was.stays;
        at_once = was.at_once;
        elsewhere = λ m off. was.elsewhere m (λ is. off (inr (own, is.0))) ∙ of.elsewhere.seen m (λ o. off (inl o));
      },
      (of.represented base (state was.after).seen).0 (settled base s1.disk.seen (state was.after).seen (λ m o. was.elsewhere m (λ is. is.1 (in_own m (of.own m o)))) shown),
    ))

module _ {D : Type 0} (state : D → DiskState) (place : Place) (d0 d2 : DiskState) (s1 s2 : StoreState) (begun : IsOpenFor place d0 s1) (of : IsOfPlace place d0 s1) (quiet : ChangesNothing s2.disk d2) (Own : List ℕ → Type 0)
    (own_in : (m : List ℕ) → Own m → place.is_own m) (in_own : (m : List ℕ) → place.is_own m → Own m) (outbound : List ℕ) where
  module _ (own : List ℕ) (base : Base) (represented : place.represents base d0.seen) where
    abbrev Stays : Files → Type 0
    Stays = place.represents base

    abbrev Comes : Files → Type 0
    Comes = place.represents (all_scanned base)

    -- the steps before the commit
    module _ (files : List PacketFile) (found : List Left) where
      abbrev Prepares : Files → Type 0
      Prepares = IsPreparing place outbound own d0 base found files

      abbrev Prepares_on : Files → Type 0
      Prepares_on = OneStepOn (PreparesScan outbound own (s1.represented base) base.cursor found files) s1.disk

      opened_prepares : (c : Files) → RepresentsOrWasLeft place d0 base c → d0.may_leave c ⊎ Prepares c
      opened_prepares c left =
          ⊎_elim
          (λ (alone : RepresentsAlone place d0 base c). inr (c, inl alone, record { between = c; ends = finishes_none base.cursor found c; writes = λ m other. refl; represented = alone.represented }))
          (λ was. inl was)
          left

      prepared_on : (c : Files) → Prepares_on c → Prepares c
      prepared_on c step = (
        step.0,
        left_now d0 s1.disk (RepresentsOrWasLeft place d0 base) (begun.run base represented) step.0 step.1,
        record { between = step.2.between; ends = step.2.ends; writes = step.2.writes; represented = (of.represented base c).0 step.2.represented },
      )

      stopped_crash : LeavesOnly s1.disk s2.disk Prepares_on → LeavesOnly d0 d2 (λ c. d0.may_leave c ⊎ Prepares c)
      stopped_crash crash =
          let May : Files → Type 0 = λ c. d0.may_leave c ⊎ Prepares c in
          then_nothing d0 s2.disk d2 May
          (then_run d0 s1.disk s2.disk May Prepares_on (weaker_run d0 s1.disk (RepresentsOrWasLeft place d0 base) May (begun.run base represented) opened_prepares) crash (λ c on. inr (prepared_on c on)))
          quiet

    stopped_reported : (files : List PacketFile) (some failed : Type 0) (why : CommandError) (result : Result (Unit {0}) ScanError) → (some → failed) → ReportsStop some outbound own files s1.disk.seen s2.disk.seen why result
        → ReportsStop failed outbound own files s1.disk.seen d2.seen why result
    stopped_reported files some failed why result wider (inl (is, gone)) = inl (is, λ m at. ⊎_elim (λ none. inl (quiet.seen m ∙ none)) (λ same. inr (quiet.seen m ∙ same)) (gone m at))
    stopped_reported files some failed why result wider (inr (left, is, cause)) = inr (left, is, put_wider some failed ⊥ ⊥ ⊥ (Err (Staying left)) wider (λ none. none) cause)

    stopped_in : (files : List PacketFile) (IsTrue : Files → Type 0) (some failed : Type 0) (why : CommandError) (result : Result (Unit {0}) ScanError) → (some → failed)
        → StopsScan (IsTrue s1.disk.seen) some Own outbound own (s1.represented base) base.cursor files s1.disk s2.disk why result → StopsScanIn place outbound own IsTrue failed d0 d2 base files why result
    stopped_in files IsTrue some failed why result wider stops = record {
      opened = s1.disk.seen;
      elsewhere = of.elsewhere.seen;
      found = stops.found;
      each = λ k z lt. left_as Own place.is_own in_own outbound own (IsTrue s1.disk.seen) (get_or stops.found k z) (stops.each k z lt);
      crash = stopped_crash files stops.found stops.crash;
      lasts = λ c left. prepared_on files stops.found c (left_now s1.disk s2.disk (Prepares_on files stops.found) stops.crash c (quiet.no_more c left));
      shown = subst Stays (sym (same_seen s2.disk d2 quiet)) ((of.represented base s2.disk.seen).0 stops.shown);
      others = λ m other. quiet.seen m ∙ stops.others m other;
      reported = stopped_reported files some failed why result wider stops.reported;
    }

    module _ (files : List PacketFile) (is_true : Type 0) (some : Type 0) (result : Result (Unit {0}) ScanError) (sends : SendsOut state is_true some Own outbound own (s1.represented base) (s1.represented (all_scanned base)) base.cursor files s1.disk s2.disk result) where
      abbrev found : List Left
      found = sends.found

      abbrev May : Files → Type 0
      May = MayLeave is_true place outbound own d0 base found files s1.disk.seen

      abbrev On_way : Files → Type 0
      On_way = IsOnItsWay is_true place outbound own d0 base found files s1.disk.seen

      abbrev Sends : Files → Type 0
      Sends c = Prepares_on files found c ⊎ CommitsScan is_true Own outbound own (IsOnDisk s1.disk) (s1.represented base) (s1.represented (all_scanned base)) base.cursor found files s1.disk.seen c

      opened_may : (c : Files) → RepresentsOrWasLeft place d0 base c → May c
      opened_may c left = ⊎_elim (λ was. inl was) (λ prepares. inr (inl prepares)) (opened_prepares files found c left)

      on_disk_still : (m : List ℕ) → (place.is_own m → ⊥) → IsOnDisk d0 m → IsOnDisk s1.disk m
      on_disk_still m out on = (of.elsewhere.named m out on.0, of.elsewhere.flushed m out on.1)

      on_disk_then : {E : Type 0} (m : List ℕ) → (place.is_own m → ⊥) → (IsOnDisk d0 m × (IsOfLeft found m → ⊥)) ⊎ E → (IsOnDisk s1.disk m × (IsOfLeft found m → ⊥)) ⊎ E
      on_disk_then {E} m out at = ⊎_elim (λ (on : IsOnDisk d0 m × (IsOfLeft found m → ⊥)). inl (on_disk_still m out on.0, on.1)) (λ (ended : E). inr ended) at

      sent_on : (c : Files) → Sends c → On_way c
      sent_on c (inl step) = inl (prepared_on files found c step)
      sent_on c (inr with) = inr (record {
        all = all_left_as Own place.is_own in_own outbound own is_true s1.disk.seen found own_in with.all;
        between = with.between;
        ended = with.ended;
        staging_them = with.staging_them;
        others = λ m other at. with.others m (λ these. other (these_as Own place.is_own in_own outbound own files own_in m these)) (on_disk_then m (λ o. other (inl o)) at);
        either = ⊎_elim (λ none. inl ((of.represented base c).0 none.0, none.1)) (λ all. inr ((of.represented (all_scanned base) c).0 all.0, all.1, all.2)) with.either;
      })

      put_crash : LeavesOnly d0 d2 May
      put_crash =
          then_nothing d0 s2.disk d2 May
          (then_run d0 s1.disk s2.disk May Sends (weaker_run d0 s1.disk (RepresentsOrWasLeft place d0 base) May (begun.run base represented) opened_may) sends.crash (λ c on. inr (sent_on c on)))
          quiet

      put_lasts : (c : Files) → d2.may_leave c → On_way c
      put_lasts c left = sent_on c (left_now s1.disk s2.disk Sends sends.crash c (quiet.no_more c left))

      put_sent : (r : Result (Unit {0}) ScanError) → OnOk r (AreSentOut is_true Own outbound own (IsOnDisk s1.disk) (s1.represented (all_scanned base)) base.cursor found files s1.disk.seen s2.disk)
          → OnOk r (AreSentOut is_true place.is_own outbound own (IsOnDisk d0) Comes base.cursor found files s1.disk.seen d2)
      put_sent (Ok done) sent = record {
        all = all_left_as Own place.is_own in_own outbound own is_true s1.disk.seen found own_in sent.all;
        between = sent.between;
        ended = sent.ended;
        staging_them = sent.staging_them;
        free = sent.free;
        packets = grind arith;
        gone = λ k z lt. quiet.seen (staging_path (outbound ++ (get_or files k z).name) own) ∙ sent.gone k z lt;
        shown = subst Comes (sym (same_seen s2.disk d2 quiet)) ((of.represented (all_scanned base) s2.disk.seen).0 sent.shown);
        on_disk = λ c left. (of.represented (all_scanned base) c).0 (sent.on_disk c (quiet.no_more c left));
        others = λ m other. quiet.seen m ∙ sent.others m (λ these. other (these_as Own place.is_own in_own outbound own files own_in m these));
        bytes = sent.bytes;
        settled = λ k z lt. let on = sent.settled k z lt in (quiet.named _ (λ h. h) on.0, quiet.flushed _ (λ h. h) on.1);
        still = λ m other at.
            let on = sent.still m (λ these. other (these_as Own place.is_own in_own outbound own files own_in m these)) (on_disk_then m (λ o. other (inl o)) at) in
            (quiet.named m (λ h. h) on.0, quiet.flushed m (λ h. h) on.1);
      }
      put_sent (Err why) sent = tt

    put_in : (files : List PacketFile) (IsTrue : Files → Type 0) (some failed : Type 0) (result : Result (Unit {0}) ScanError) → (some → failed) → AreSettledByOwn s1 → s1.represented base s1.disk.seen
        → SendsOut state (IsTrue s1.disk.seen) some Own outbound own (s1.represented base) (s1.represented (all_scanned base)) base.cursor files s1.disk s2.disk result → IsPutIn state place outbound own IsTrue failed d0 d2 base files result
    put_in files IsTrue some failed result wider settled shown sends = record {
      opened = s1.disk.seen;
      elsewhere = of.elsewhere.seen;
      found = sends.found;
      each = λ k z lt. left_as Own place.is_own in_own outbound own (IsTrue s1.disk.seen) (get_or sends.found k z) (sends.each k z lt);
      sent = put_sent files (IsTrue s1.disk.seen) some result sends result sends.sent;
      crash = put_crash files (IsTrue s1.disk.seen) some result sends;
      lasts = put_lasts files (IsTrue s1.disk.seen) some result sends;
      left =
          tells_as _ _ _ _ _ _ _ _ (λ shown. subst Stays (sym (same_seen s2.disk d2 quiet)) ((of.represented base s2.disk.seen).0 shown))
          (λ none m at other. ⊎_elim (λ gone. inl (quiet.seen m ∙ gone)) (λ same. inr (quiet.seen m ∙ same)) (none m at other))
          (λ shown. subst Comes (sym (same_seen s2.disk d2 quiet)) ((of.represented (all_scanned base) s2.disk.seen).0 shown))
          (λ all k z lt. ⊎_elim (λ at. inl (quiet.seen _ ∙ at)) (λ at. inr (quiet.seen _ ∙ at)) (all k z lt)) result sends.left;
      why = put_wider some failed _ _ _ result wider (taken_as Own place.is_own in_own outbound own base.cursor sends.found files s1.disk.seen own_in) sends.why;
      tried = tried_in state place d0 d2 s1 s2 of quiet Own in_own settled outbound own base shown files sends.tried;
    }

    put_as : (IsTrue : Files → Type 0) (some failed : Type 0) (packets : List PacketFile) (made : Result (List PacketFile) CommandError) (result : Result (Unit {0}) ScanError) → (some → failed) → AreSettledByOwn s1 → s1.represented base s1.disk.seen
        → IsPutOn state Own outbound own IsTrue some s1 s2 base packets made result → IsPutAs state place outbound own IsTrue failed d0 d2 base packets made result
    put_as IsTrue some failed packets (Ok files) result wider settled shown sent = put_in files IsTrue some failed result wider settled shown sent
    put_as IsTrue some failed packets (Err why) result wider settled shown stops = stopped_in packets IsTrue some failed why result wider stops

  -- the scan of a station
  pub scanned_on : (stamp : Stamp) (IsTrue : Files → Type 0) (some failed : Type 0) (out now : Output) (file : LinkFile) (base : Base) (result : Result (Unit {0}) ScanError) → place.represents base d0.seen → (some → failed) → AreSettledByOwn s1 → s1.represented base s1.disk.seen
      → ScansOnStore state stamp Own outbound IsTrue some s1 s2 out now file base result → IsScanOn state stamp place outbound IsTrue failed d0 d2 out now file base result
  scanned_on stamp IsTrue some failed out now file base result represented wider settled shown scans = record {
    made = scans.made;
    answer = scans.answer;
    put = put_as (dotted file.system) base represented IsTrue some failed (packets_in stamp file base) scans.made result wider settled shown scans.put;
    whole = scans.whole;
  }

-- which paths a scan touched
pub scan_keeps : (place : Place) (outbound : List ℕ) (d0 d2 : DiskState) (s1 s2 : StoreState) → IsOfPlace place d0 s1 → ChangesNothing s2.disk d2 → KeepsStoreBut (IsTouched s1.is_own outbound) s1 s2
    → UnchangedExcept (IsTouched place.is_own outbound) d0 d2
scan_keeps place outbound d0 d2 s1 s2 of quiet kept = grind (arith, keeps_then, elsewhere_keeps, keeps_wider, ⊎_elim, keeps_nothing)
