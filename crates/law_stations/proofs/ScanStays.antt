-- A scan that met a fault leaves the station unchanged.
use Rattle.{std.{proofs.Common.{◌≡◌, ◌<◌, ◌⊎◌, ◌∙◌, subst, ℕ, List, Result, Ok, Err, arith}, specs.Prelude.IfErr}, disk_io.specs.Disk.{DiskState, Files}}
use Rattle.{echo_links.specs.Links.LinkFile, cmd_status.specs.{declared.fault.Fault.Fault, Devices.Output}, model_steps.specs.PacketFiles.PacketFile}
use Rattle.{model_steps.specs.declared.stamp.Stamp.Stamp, cmd_store.specs.declared.command_error.CommandError.{CommandError, TheVariants.Met}}
use Rattle.{station.specs.{Place.Place, Running.{IsNotRun, IsStopped}}, station_scan.specs.Publishing.UnchangedExcept}
use Rattle.station_scan.specs.{Scanning.{IsPutAs, IsTaken, IsTouched, ScansIn}, Stops.{IsOfPlacing, as_scan, most}, declared.scan_error.ScanError.ScanError}
use Rattle.{station_scan.specs.declared.scan_error.ScanError.TheVariants.Command, law_stations.specs.Disks.Disks}
use Rattle.law_stations.specs.{OnDisks.{IsAsBefore, IsLinkedOn, IsStationAt, ShowsStation}, Scans.StaysWhereScanMet}

module _ (place : Place) (outbound links : List ℕ) (i : ℕ) (d : Disks) (old new : DiskState) (at : IsStationAt place links i old d) (kept : UnchangedExcept (IsTouched place.is_own outbound) old new)
    (away : IsTouched place.is_own outbound links → ⊥) where
  linked : IsLinkedOn links new
  linked = record { named = kept.named links away at.linked.named; flushed = kept.flushed links away at.linked.flushed }

  shows : (c : Files) → c links ≡ old.seen links → place.represents at.shows.station.base c → ShowsStation place links i c d
  shows c same represented = record { station = at.shows.station; there = at.shows.there; of_links = same ∙ at.shows.of_links; represented = represented }

  as-before : place.represents at.shows.station.base new.seen → ((c : Files) → new.may_leave c → place.represents at.shows.station.base c) → IsAsBefore place links i d new
  as-before seen represented = record {
    at = record { shows = shows new.seen (kept.seen links away) seen; linked = linked; outside = at.outside };
    on_disk = λ c left. shows c (new.on_disk links linked.named linked.flushed c left ∙ kept.seen links away) (represented c left);
  }

  module _ (IsTrue : Files → Type 0) (IsShut Stops : Fault → Type 0) (failed : Type 0) (result : Result (Unit {0}) ScanError) (fault : Fault) (is : result ≡ Err (Command (Met fault))) where
    put-so : {D : Type 0} (state : D → DiskState) (own : List ℕ) (packets : List PacketFile) (made : Result (List PacketFile) CommandError) → IsPutAs state place outbound own IsTrue failed old new at.shows.station.base packets made result → IsAsBefore place links i d new
    put-so state own packets (Ok files) put = absurd (subst (λ (r : Result (Unit {0}) ScanError). IfErr r (IsOfPlacing failed (IsTaken place.is_own outbound own at.shows.station.base.cursor put.found files put.opened) (most < at.shows.station.base.cursor))) is put.why)
    put-so state own packets (Err why) put = as-before put.shown (λ c left. (put.lasts c left).2.represented)

    not-run : (out out_now : Output) (stopped : Result (Unit {0}) CommandError) → result ≡ as_scan stopped → IsNotRun place IsShut old new out out_now stopped ⊎ IsStopped place Stops old new out out_now stopped
        → IsAsBefore place links i d new ⊎ IsShut fault
    not-run out out_now stopped h1 h2 = grind (arith, as-before)

    stays : {D : Type 0} (state : D → DiskState) (stamp : Stamp) (Reads : LinkFile → Type 0) (out out_now : Output) → ScansIn state stamp place outbound IsTrue Reads IsShut Stops failed old new out out_now result → IsAsBefore place links i d new ⊎ IsShut fault
    stays state stamp Reads out out_now h1 = grind (arith, put-so, not-run)

pub scan-stays : {D : Type 0} (state : D → DiskState) (stamp : Stamp) (place : Place) (outbound : List ℕ) (IsTrue : Files → Type 0) (Reads : LinkFile → Type 0) (IsShut Stops : Fault → Type 0) (failed : Type 0) (old new : DiskState) (out out_now : Output) (result : Result (Unit {0}) ScanError)
    → UnchangedExcept (IsTouched place.is_own outbound) old new → ScansIn state stamp place outbound IsTrue Reads IsShut Stops failed old new out out_now result → StaysWhereScanMet place outbound IsShut old new result
scan-stays state stamp place outbound IsTrue Reads IsShut Stops failed old new out out_now result kept scans links i d away at fault is =
    stays place outbound links i d old new at kept away IsTrue IsShut Stops failed result fault is state stamp Reads out out_now scans
