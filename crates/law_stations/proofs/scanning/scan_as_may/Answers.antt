use Rattle.law_stations.proofs.{ScanEvents.scan-does, ScanStays.scan-stays}
use Rattle.law_stations.proofs.scanning.scan_as_may.Goals as goal

pub returns-clause-does : goal.returns-clause-does
returns-clause-does g c = λ honest.
    let ran = c.run_scan.ensures in
    scan-does g.D.Disk.state c.args.scan.now.stamp (g.P.OpenStation.place c.args.station) c.args.scan.now.outbound.now _ _ _ _ _ (g.D.Disk.state c.args.disk) (g.D.Disk.state c.run_scan.result.disk) _ _ c.run_scan.result.done ran.keeps (ran.runs honest)

pub returns-clause-stays : goal.returns-clause-stays
returns-clause-stays g c = λ honest.
    let ran = c.run_scan.ensures in
    scan-stays g.D.Disk.state c.args.scan.now.stamp (g.P.OpenStation.place c.args.station) c.args.scan.now.outbound.now _ _ _ _ _ (g.D.Disk.state c.args.disk) (g.D.Disk.state c.run_scan.result.disk) _ _ c.run_scan.result.done ran.keeps (ran.runs honest)
