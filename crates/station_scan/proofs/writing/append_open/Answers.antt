use Rattle.station_scan.proofs.Written.{opened_if}
use Rattle.station_scan.proofs.writing.append_open.Goals as goal

pub returns-clause-opened : goal.returns-clause-opened
returns-clause-opened g c =
    let batch = c.args.batch in
    let did = c.append_each.ensures in
    opened_if batch.outbound.now batch.packets.now c.requires.placed (g.Q.Pieces.bytes c.args.pieces.now) (g.D.Disk.state c.args.disk.now) (g.D.Disk.state c.append_each.new.disk) c.requires.opened did.changes did.named c.append_each.result
    did.grow did.longer did.bytes
