use Rattle.std.proofs.Common.{◌≤◌, arith}
use Rattle.base_folder_store.{specs.Extent.bytes_of, proofs.{Ahead.{part_empty, part_read}, Extents.size_is}}
use Rattle.base_folder_store.proofs.read_ahead.ReadAhead.read.Goals as goal

pub returns-in-Ok-clause-part : goal.returns-in-Ok-clause-part
returns-in-Ok-clause-part g c honest = λ was.
    let d = g.D.Disk.state c.args.disk.now in
    let to = c.min-to.result in
    let long = size_is d c.args.extent c.requires.head (c.requires.readable (c.fill_across.ensures.quiet.honest honest)) in
    let asked = c.requires.order in
    let room = c.requires.within in
    let order : c.args.begins ≤ to = omega arith in
    part_read (bytes_of d c.args.extent) (record { from = c.args.begins; bytes = c.fill_across.new.part }) to order (omega (arith, long)) (c.in-Ok.ensures.bytes honest)

pub returns-in-Err-clause-part : goal.returns-in-Err-clause-part
returns-in-Err-clause-part g c honest = λ was. grind (arith, part_empty, size_is)
