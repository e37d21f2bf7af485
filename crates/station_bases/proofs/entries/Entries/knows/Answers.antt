use Rattle.{disk_io.specs.Disk.bytes_in, station_bases.proofs.EntryKeys.{key_recorded, where_recorded}}
use Rattle.station_bases.proofs.entries.Entries.knows.Goals as goal

pub returns-clause-found : goal.returns-clause-found
returns-clause-found g c honest = λ base held.
    let e = c.args.self.now in
    let file = bytes_in ((g.D.Disk.state c.args.disk.now).seen c.args.path.now) in
    c.find.ensures.found honest base.messages (where_recorded file e base.messages base.cursor held.files)
    (key_recorded file e base.messages base.cursor held.files c.args.key.now c.in_ok-digest.digest c.in_ok-digest.ensures)
