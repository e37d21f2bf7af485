-- A scan once its cursor was moved: its lines are printed, or it stops.
use Rattle.std.proofs.Common.{◌≡◌, inl, inr, ⊎_elim, ◌∙◌, ◌≤◌, ◌<◌, ℕ, true, List, Result, Ok, Err, map, drop, refl, sym, subst, ap, arith}
use Rattle.{std.specs.{Prelude.IsErrOf, List.flat_map}, base_file.specs.Base.Base, disk_io.specs.{Disk.{DiskState, Files, Honestly}, Runs.ChangesNothing}}
use Rattle.disk_io.{specs.declared.disk_error.DiskError.DiskError, proofs.Moments.then_nothing}
use Rattle.{disk_atomic.specs.declared.placing_error.PlacingError.PlacingError, cmd_status.specs.Devices.Output, cmd_store.specs.PacketLines.counted_line}
use Rattle.cmd_store.specs.{Answered.{AnswersOn, AreLines, RefusesNone}, Scanned.{ScansOn, files_scanned}, Stops.store_answer}
use Rattle.cmd_store.{specs.declared.command_error.CommandError.{CommandError, TheVariants.Store}, proofs.Scans.scan_printed}
use Rattle.echo_steps.specs.{declared.counting.CountedPacket.CountedPacket, Counts.{counted_of, counted_to, link_set}}
use Rattle.echo_steps.{specs.{Exports.{OutgoingMessage as Sent, sent_of}, PacketsIn.state_in}, proofs.Counts.all_counted}
use Rattle.{model_steps.specs.{PacketFiles.PacketFile, Scanning.scanned, Stamps.is_stamp}, base_store.specs.Store.{LooksOn, StoreState, all_scanned}}
use Rattle.{base_store.{specs.declared.store_error.StoreError.StoreError, proofs.Runs.{quiet_disk, same_twice}}, station.specs.Beneath.IsUsedAt}
use Rattle.station_scan.specs.Moved.{HasReported, IsMoved, IsPutFrom, ScansFrom, SendsFrom, StopsFrom, ReportsFrom, files_reported, from_number, reported_as}
use Rattle.station_scan.specs.Passing.{AreCounted, AreDropped, AreGoneOrSame, CanSend, HasStaged, IsPartOf, IsStagingTo, IsTakenFor, StopsPassing, all_sent, counts_in, is_made}
use Rattle.station_scan.specs.{Fitting.AreTaken, Publishing.KeepsStoreBut, Scanning.{IsTouched, packets_in}, Sending.IsStagingOfPacket, Sends.WritesStaging}
use Rattle.station_scan.specs.{Stops.{IsOfPlacing, IsUnplanned, most}, declared.{pieces.ScanSource.ScanSource, publish_error.PublishError.PublishError}}
use Rattle.station_scan.specs.declared.{counting.LinkPacket.LinkPacket, scan_error.ScanError.{ScanError, TheVariants.{Command, Placing, Staying, TooFar}}}
use Rattle.station_scan.{specs.declared.sending.Sending.Sending, proofs.Stops.{placing_why, put_whole, put_wider}}
use Rattle.station_scan.proofs.{Sendings.{few_keeps, sends_before, writes_before}, Files.{files_are, staging_files, taken_files}}
use Rattle.station_scan.proofs.{Passes.{can_still, counts_are}, Routes.staging_named, Published.{keeps_nothing, keeps_then, keeps_wider}}
use Rattle.disk_io.specs.declared.disk_error.DiskError.TheVariants as disk
use Rattle.disk_atomic.specs.declared.placing_error.PlacingError.TheVariants as placing
use Rattle.base_store.specs.declared.store_error.StoreError.TheVariants as error

-- ---- the printed lines

-- the lines of the packets of a pass are those of a scan
pub lines_answer : (to : Sending) (base : Base) (sent : List Sent) (links : List LinkPacket) (old new : Output) (result : Result (Unit {0}) CommandError) → is_stamp to.source.stamp ≡ true → to.source.from ≡ base.cursor
    → AreCounted to sent links → sent ≡ all_sent to base → AnswersOn (AreLines (flat_map counted_line (counts_in links))) RefusesNone old new result
    → ScansOn to.source.stamp (state_in to.source.links.now base) old new (files_scanned to.source.stamp (state_in to.source.links.now base) result)
lines_answer to base sent links old new result stamp at are all out =
    let file = to.source.links.now in
    let cursor_sent : sent ≡ sent_of file (drop base.cursor base.messages) = all ∙ ap (λ (n : ℕ). sent_of file (drop n base.messages)) at in
    let counts : counts_in links ≡ map counted_of (scanned file base.messages base.cursor to.source.stamp) =
    counts_are to sent links are ∙ all_counted file base.messages base.cursor sent (map (counted_to sent) (link_set file)) cursor_sent refl to.source.stamp in
    scan_printed to.source.stamp (state_in file base) (counts_in links) old new stamp counts result out

-- where the store did not fail
pub no_damage : (stop : CommandError) → store_answer {A = Unit {0}} (Err stop) ≡ Ok tt → IsErrOf {T = Unit {0}} (Err (Command stop)) (Command (Store error.Damaged)) → ⊥
no_damage h1 met is = grind arith

pub staying_why : (failed : Type 0) (left : DiskError) → (left ≡ disk.Device → failed) → IsOfPlacing failed ⊥ ⊥ (Staying left)
staying_why failed disk.Device gives = gives refl
staying_why failed disk.Memory gives = tt

-- no message is damaged where the lines were reported
pub reported_whole : (why : ScanError) (reported : Result (Unit {0}) CommandError) → ((e : CommandError) → why ≡ Command e → ⊥) → (IsErrOf (store_answer reported) error.Damaged → ⊥) → IsErrOf (reported_as why reported) (Command (Store error.Damaged)) → ⊥
reported_whole why reported h1 h2 h3 = grind arith

-- ---- it stopped

module _ {D : Type 0} (state : D → DiskState) (Own : List ℕ → Type 0) (to : Sending) (failed : Type 0) (s0 s1 : StoreState) (links : List LinkPacket) (staged : HasStaged Own to (IsPartOf to s0 s1) s0 s1 links) (base : Base)
    (moved : IsMoved s0 to.source.from base) (can : CanSend Own to s1) (honest1 : s1.disk.is_honest) where
  abbrev files : List PacketFile
  files = packets_in to.source.stamp to.source.links.now base

  abbrev few : List ℕ → Type 0
  few = IsStagingTo to staged.sent

  into : (m : List ℕ) → few m → IsStagingOfPacket to.outbound.now to.own.now files m
  into m at =
      subst (λ (l : List PacketFile). IsStagingOfPacket to.outbound.now to.own.now l m) (sym (files_are to base moved.at))
      (staging_files to can.routes base staged.sent (staged.part honest1 (all_scanned base) moved.keeps) m at)

  off : (m : List ℕ) → s0.is_own m → few m → ⊥
  off m o at = (staging_named Own to can.routes (is_made staged.sent) staged.fit m at).1 (can.own m ((staged.used.same.own m).1 o))

  honest0 : s0.disk.is_honest
  honest0 = staged.used.changes.honest honest1

  -- and then it was only looked at
  module _ (s2 : StoreState) (quiet : ChangesNothing s1.disk s2.disk) where
    pub stops_from : (why : CommandError) (result : Result (Unit {0}) ScanError) → ReportsFrom failed s0.disk.seen s2.disk.seen why result → StopsFrom to.outbound.now to.own.now failed s0 s2 base files why result
    stops_from why result reported = record {
      crash =
          then_nothing s0.disk s1.disk s2.disk (WritesStaging s0 to.outbound.now to.own.now files base)
          (writes_before to.outbound.now to.own.now files few into s0 s1 staged.used moved.ready honest0 base (all_scanned base) moved.committed off) quiet;
      others = λ m other. quiet.seen m ∙ staged.used.changes.seen m (λ at. other (into m at));
      shown = staged.used.settled base s0.disk.seen s2.disk.seen (λ m o. quiet.seen m ∙ staged.used.changes.seen m (off m o)) (s0.shown honest0 moved.ready base moved.committed);
      reported = reported;
    }

    same_still : AreGoneOrSame s0.disk.seen s1.disk.seen → AreGoneOrSame s0.disk.seen s2.disk.seen
    same_still gone m = ⊎_elim (λ none. inl (quiet.seen m ∙ none)) (λ same. inr (quiet.seen m ∙ same)) (gone m)

    -- the lines could not be printed, and the staging files were removed or not
    pub scans_unprinted : (out now : Output) (stop : CommandError) (result : Result (Unit {0}) ScanError) → ScansOn to.source.stamp (state_in to.source.links.now base) out now (Err stop) → ReportsFrom failed s0.disk.seen s2.disk.seen stop result
        → (IsErrOf result (Command (Store error.Damaged)) → ⊥) → ScansFrom state Own to failed s0 s2 out now base result
    scans_unprinted out now stop result answer reported whole = record { made = Err stop; answer = answer; put = stops_from stop result reported; whole = whole }

    -- a packet was not written
    sends_not : (cause : PlacingError) → (cause ≡ placing.Device → failed) → (cause ≡ placing.Taken → IsTakenFor Own to base s0.disk.seen) → AreGoneOrSame s0.disk.seen s2.disk.seen → IsUsedAt few s0 s2
        → SendsFrom state Own to.outbound.now to.own.now failed s0 s2 base files (Err (Placing cause))
    sends_not cause device taken gone used = record {
      sent = tt;
      free = tt;
      crash = sends_before to.outbound.now to.own.now files few into s0 s2 used moved.ready honest0 base (all_scanned base) moved.committed off;
      keeps = few_keeps to.outbound.now to.own.now files few into s0 s2 used moved.ready honest0 base (all_scanned base) moved.committed off;
      why =
          placing_why failed (AreTaken Own to.outbound.now to.own.now files s0.disk.seen) (most < base.cursor) cause device
          (λ is. subst (λ (l : List PacketFile). AreTaken Own to.outbound.now to.own.now l s0.disk.seen) (sym (files_are to base moved.at)) (taken_files to can.routes base Own s0.disk.seen (taken is)));
      left = inl (used.settled base s0.disk.seen s2.disk.seen (λ m o. used.changes.seen m (off m o)) (s0.shown honest0 moved.ready base moved.committed), λ m at other. gone m);
      tried = inl used.holds;
    }

    pub scans_reported : (out now : Output) (cause : PlacingError) (reported : Result (Unit {0}) CommandError) → (cause ≡ placing.Device → failed) → (cause ≡ placing.Taken → IsTakenFor Own to base s0.disk.seen)
        → AreGoneOrSame s0.disk.seen s1.disk.seen → IsUsedAt few s0 s2 → ScansOn to.source.stamp (state_in to.source.links.now (from_number to.source.from base)) out now (files_reported to.source (all_scanned base) reported)
        → (IsErrOf (store_answer reported) error.Damaged → ⊥) → ScansFrom state Own to failed s0 s2 out now base (reported_as (Placing cause) reported)
    scans_reported out now cause (Ok done) device taken gone used answer whole =
        let put = sends_not cause device taken (same_still gone) used in
        record {
          made = Ok files;
          answer = subst (λ (n : ℕ). ScansOn to.source.stamp (state_in to.source.links.now (from_number n base)) out now (Ok (packets_in to.source.stamp to.source.links.now (from_number n base)))) moved.at answer;
          put = put;
          whole = λ e. cc e;
        }
    scans_reported out now cause (Err stop) device taken gone used answer whole = record {
      made = Err stop;
      answer = subst (λ (n : ℕ). ScansOn to.source.stamp (state_in to.source.links.now (from_number n base)) out now (Err stop)) moved.at answer;
      put = stops_from stop (Err (Command stop)) (inl (refl, same_still gone));
      whole = reported_whole (Placing cause) (Err stop) (λ e is. cc is) whole;
    }

-- the lines were printed, and the packets sent
pub scans_sent : {D : Type 0} (state : D → DiskState) (Own : List ℕ → Type 0) (to : Sending) (failed : Type 0) (s0 s2 : StoreState) (base : Base) (out now : Output) (result : Result (Unit {0}) ScanError)
    → ScansOn to.source.stamp (state_in to.source.links.now base) out now (Ok (packets_in to.source.stamp to.source.links.now base))
    → SendsFrom state Own to.outbound.now to.own.now failed s0 s2 base (packets_in to.source.stamp to.source.links.now base) result → ScansFrom state Own to failed s0 s2 out now base result
scans_sent state Own to failed s0 s2 base out now result answer put = record { made = Ok (packets_in to.source.stamp to.source.links.now base); answer = answer; put = put; whole = put_whole failed _ _ result put.why }

-- the pass stopped, and no packet was why
module _ {D : Type 0} (state : D → DiskState) (Own : List ℕ → Type 0) (to : Sending) (failed : Type 0) (s0 s1 : StoreState) (base : Base) (out : Output) (moved : IsMoved s0 to.source.from base) (can : CanSend Own to s0) (honest : s1.disk.is_honest)
    (why : PublishError) (stops : StopsPassing Own to s0 s1 why) where
  still : CanSend Own to s1
  still = can_still Own (IsStagingTo to stops.staged.sent) to s0 s1 stops.staged.used can

  pub scans_reading : (cause : StoreError) → AreDropped why → (cause ≡ error.Damaged → ⊥) → ScansFrom state Own to failed s0 s1 out out base (Err (Command (Store cause)))
  scans_reading cause dropped whole =
      scans_unprinted state Own to failed s0 s1 stops.all stops.staged base moved still honest s1 (quiet_disk s1.disk) out out (Store cause) (Err (Command (Store cause))) refl (inl (refl, stops.gone honest dropped)) (λ e. whole (cc e))

  pub scans_staying : (left : DiskError) → (left ≡ disk.Device → failed) → ScansFrom state Own to failed s0 s1 out out base (Err (Staying left))
  scans_staying left device =
      scans_unprinted state Own to failed s0 s1 stops.all stops.staged base moved still honest s1 (quiet_disk s1.disk) out out (Store error.Memory) (Err (Staying left)) refl (inr (left, refl, staying_why failed left device)) (λ e. cc e)

pub err_of : {T : Type 0} (done : Result T PublishError) (why what : PublishError) → done ≡ Err why → why ≡ what → IsErrOf done what
err_of (Ok value) why what is same = absurd (cc is)
err_of (Err other) why what is same = cc (is, same)

pub placing_err_of : (done : Result (Unit {0}) PlacingError) (why what : PlacingError) → done ≡ Err why → why ≡ what → IsErrOf done what
placing_err_of h1 why what is same = grind arith

-- no planned packets: no fault of the store, and its reason
pub unplanned_other : (from : ℕ) (why : ScanError) → IsUnplanned from why → (e : CommandError) → why ≡ Command e → ⊥
unplanned_other from why is e same = subst (λ (w : ScanError). IsUnplanned from w) same is

pub unplanned_why : (failed taken : Type 0) (from n : ℕ) (why : ScanError) → from ≡ n → IsUnplanned from why → IsOfPlacing failed taken (most < n) why
unplanned_why failed taken from n (Placing placing.Memory) same is = tt
unplanned_why failed taken from n TooFar same is = omega (arith, same, is)
unplanned_why failed taken from n (Placing placing.Device) same is = absurd is
unplanned_why failed taken from n (Placing placing.Taken) same is = absurd is
unplanned_why failed taken from n (Command e) same is = absurd is
unplanned_why failed taken from n (Staying left) same is = absurd is

-- ---- the lines are reported

pub reported : {S : Type 0} (state : S → StoreState) (source : ScanSource) (s0 s1 : StoreState) (f0 f1 : ℕ) (out now : Output) → LooksOn s0 s1 → (packets : List CountedPacket) → f0 ≤ f1 → (s0.is_sound → s1.is_sound) → is_stamp source.stamp ≡ true
    → Honestly s1.disk ((base : Base) → s0.keeps base → packets ≡ map counted_of (scanned source.links.now base.messages source.from source.stamp)) → (result : Result (Unit {0}) CommandError)
    → AnswersOn (AreLines (flat_map counted_line packets)) RefusesNone out now result → store_answer result ≡ Ok tt → HasReported state source s0 s1 f0 f1 out now result
reported state source s0 s1 f0 f1 out now looks packets later sound stamp counted result answer met = grind (arith, scan_printed)

-- ---- one part after another

-- what failed of one part failed of all
pub reports_wider : (some failed : Type 0) (before after : Files) (why : CommandError) (result : Result (Unit {0}) ScanError) → (some → failed) → ReportsFrom some before after why result → ReportsFrom failed before after why result
reports_wider some failed before after why result wider (inl (is, gone)) = inl (is, gone)
reports_wider some failed before after why result wider (inr (left, is, cause)) = inr (left, is, put_wider some failed ⊥ ⊥ ⊥ (Err (Staying left)) wider (λ none. none) cause)

put_as_wider : {D : Type 0} (state : D → DiskState) (Own : List ℕ → Type 0) (outbound own : List ℕ) (some failed : Type 0) → (some → failed) → (s0 s1 : StoreState) (base : Base) (packets : List PacketFile) (made : Result (List PacketFile) CommandError)
    (result : Result (Unit {0}) ScanError) → IsPutFrom state Own outbound own some s0 s1 base packets made result → IsPutFrom state Own outbound own failed s0 s1 base packets made result
put_as_wider state Own outbound own some failed h1 s0 s1 base packets made result h2 = grind (arith, put_wider, reported, reports_wider)

-- more may have failed
pub scans_wider : {D : Type 0} (state : D → DiskState) (Own : List ℕ → Type 0) (to : Sending) (some failed : Type 0) → (some → failed) → (s0 s1 : StoreState) (out now : Output) (base : Base) (result : Result (Unit {0}) ScanError)
    → ScansFrom state Own to some s0 s1 out now base result → ScansFrom state Own to failed s0 s1 out now base result
scans_wider state Own to some failed wider s0 s1 out now base result scans = record {
  made = scans.made;
  answer = scans.answer;
  put = put_as_wider state Own to.outbound.now to.own.now some failed wider s0 s1 base (packets_in to.source.stamp to.source.links.now base) scans.made result scans.put;
  whole = scans.whole;
}

pub touched_after : (outbound : List ℕ) (s0 s1 s2 : StoreState) → KeepsStoreBut (IsTouched s0.is_own outbound) s0 s1 → KeepsStoreBut (IsTouched s1.is_own outbound) s1 s2 → KeepsStoreBut (IsTouched s0.is_own outbound) s0 s2
touched_after outbound s0 s1 s2 one two = grind (arith, same_twice, keeps_then, keeps_wider, ⊎_elim)

pub touched_looked : (outbound : List ℕ) (s0 s1 : StoreState) → LooksOn s0 s1 → KeepsStoreBut (IsTouched s0.is_own outbound) s0 s1
touched_looked outbound s0 s1 looks = record { same = looks.same; keeps = keeps_nothing (IsTouched s0.is_own outbound) s0.disk s1.disk looks.quiet }
