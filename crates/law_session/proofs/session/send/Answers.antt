use Rattle.std.proofs.Common.{◌≡◌, ◌∙◌, ℕ, List, sym, ap, subst, rules}
use Rattle.std.specs.Prelude.{false, Some, Result, Ok}
use Rattle.cmd_store.specs.declared.command_error.CommandError.{CommandError}
use Rattle.disk_memory.specs.Memory.{changes_of, disk_after}
use Rattle.law_stations.specs.{DiskKinds.IsPostAs, OnDisks.AsMay, Scans.ScansAsMay}
use Rattle.station_scan.specs.declared.scan_error.ScanError.{ScanError}
use Rattle.law_session.specs.Session.{ListsOne}
use Rattle.law_session.specs.declared.session.TheConstants.{FIRST_LINKS, FIRST_OUT}
use Rattle.law_session.proofs.Readings.{does-at, scans-at}
use Rattle.law_session.proofs.session.send.Goals as goal

pub returns : goal.returns
returns g c =
    let s0 = changes_of c.args.disk in
    let s1 = changes_of c.post_on-disk.result.disk in
    let d0 = disk_after s0 in
    let d1 = disk_after s1 in
    let d2 = disk_after (changes_of c.scan_on-disk.result.disk) in
    let posting = g.P.OpenStation.place c.args.posting in
    let scanning = g.P.OpenStation.place c.args.scanning in
    let letter = c.args.letter in
    let posts = subst (λ (r : Result (Unit {0}) CommandError). AsMay (λ base. IsPostAs false letter.words letter.body.now) posting (g.P.OpenStation.reads c.args.posting d0) d0 d1 r) c.in-Ok.is c.post_on-disk.ensures in
    let scans = subst (λ (r : Result (Unit {0}) ScanError). ScansAsMay letter.stamp scanning FIRST_OUT.now ListsOne (g.P.OpenStation.reads c.args.scanning d1) d1 d2 r) c.in-Ok-scanned.is c.scan_on-disk.ensures.1 in
    let copied : c.in-Ok-to_vec.packet.items ≡ c.in-Some.found.now = search rules in
    record {
      posted = s1;
      post = does-at posting (g.P.OpenStation.reads c.args.posting d0) FIRST_LINKS.now d0 d1 (c.requires.post_reads s0) (λ base. IsPostAs false letter.words letter.body.now) (Ok tt) posts;
      scanned = changes_of c.scan_on-disk.result.disk;
      scan = scans-at scanning (g.P.OpenStation.reads c.args.scanning d1) FIRST_LINKS.now d1 d2 (c.requires.scan_reads s1) letter.stamp FIRST_OUT.now ListsOne (Ok tt) scans;
      mailed = c.in-Ok-carry.ensures;
      packet = sym c.in-Some.ensures ∙ ap (λ (l : List ℕ). Some l) (sym copied);
    }
