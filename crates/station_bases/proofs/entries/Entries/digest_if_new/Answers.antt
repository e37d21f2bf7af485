use Rattle.{std.proofs.Common.{sym, ◌∙◌}, disk_io.specs.Disk.bytes_in, station_bases.proofs.EntryKeys.{key_recorded, where_recorded}}
use Rattle.station_bases.proofs.entries.Entries.digest_if_new.Goals as goal

pub returns-in-Ok-false-clause-new : goal.returns-in-Ok-false-clause-new
returns-in-Ok-false-clause-new g c honest = λ base cursor are.
    let e = c.args.self.now in
    let file = bytes_in ((g.D.Disk.state c.args.disk.now).seen c.args.path.now) in
    sym (c.in-Ok-false.ensures.found honest base (where_recorded file e base cursor are)
    (key_recorded file e base cursor are c.args.key.now c.in_ok-digest.digest c.in_ok-digest.ensures)) ∙ c.in-Ok-false.field-0-test
