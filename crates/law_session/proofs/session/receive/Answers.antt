use Rattle.std.proofs.Common.{◌≡◌, ◌∙◌, ℕ, List, ap, map, subst}
use Rattle.std.specs.{Borrow.Bor, Prelude.{Option, None, Result, Ok}}
use Rattle.{cmd_status.specs.declared.fault.Fault.Fault, cmd_store.specs.{Coming.{Coming, Holds}, declared.command_error.CommandError.CommandError}}
use Rattle.disk_memory.specs.Memory.{changes_of, disk_after}
use Rattle.law_stations.specs.{OnDisks.TossesAsMay, Scans.ScansAsMay}
use Rattle.station_scan.specs.declared.scan_error.ScanError.{ScanError}
use Rattle.law_session.specs.Session.{ListsNone}
use Rattle.law_session.specs.declared.session.TheConstants.{SECOND_LINKS, SECOND_OUT}
use Rattle.law_session.proofs.Readings.{scans-at, tosses-at}
use Rattle.law_session.proofs.session.receive.Goals as goal

pub returns : goal.returns
returns g c =
    let s0 = changes_of c.args.disk in
    let s1 = changes_of c.toss_on-disk.result.disk in
    let d0 = disk_after s0 in
    let d1 = disk_after s1 in
    let d2 = disk_after (changes_of c.scan_on-disk.result.disk) in
    let tossing = g.P.OpenStation.place c.args.tossing in
    let scanning = g.P.OpenStation.place c.args.scanning in
    let packets : List Coming = map (λ (packet : Bor (List ℕ)). Holds packet.now) c.args.packets.now in
    let left = c.toss_on-disk.ensures.0 in
    let ended : c.toss_on-disk.result.done ≡ Ok None = c.in-Ok.is ∙ ap (λ (o : Option Fault). Ok o) c.in-None.is in
    let tosses = subst (λ (r : Result (Option Fault) CommandError). TossesAsMay packets left tossing (g.P.OpenStation.reads c.args.tossing d0) d0 d1 r) ended c.toss_on-disk.ensures.1 in
    let scans = subst (λ (r : Result (Unit {0}) ScanError). ScansAsMay c.args.stamp scanning SECOND_OUT.now ListsNone (g.P.OpenStation.reads c.args.scanning d1) d1 d2 r) c.in-Ok-scanned.is c.scan_on-disk.ensures.1 in
    record {
      tossed = s1;
      left = left;
      toss = tosses-at tossing (g.P.OpenStation.reads c.args.tossing d0) SECOND_LINKS.now d0 d1 (c.requires.toss_reads s0) packets left (Ok None) tosses;
      scan = scans-at scanning (g.P.OpenStation.reads c.args.scanning d1) SECOND_LINKS.now d1 d2 (c.requires.scan_reads s1) c.args.stamp SECOND_OUT.now ListsNone (Ok tt) scans;
    }
