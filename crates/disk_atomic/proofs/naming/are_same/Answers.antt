use Rattle.std.proofs.Common.{◌∙◌, arith, ap}
use Rattle.disk_atomic.proofs.Whole.{same_files}
use Rattle.disk_io.specs.Disk.{bytes_in}
use Rattle.disk_atomic.proofs.naming.are_same.Goals as goal

pub read_file-requires-2 : goal.read_file-requires-2
read_file-requires-2 g c honest = grind arith

pub returns-clause-same : goal.returns-clause-same
returns-clause-same g c honest =
    let d0 = g.D.Disk.state c.args.disk.now in
    let one = c.args.one.now in
    let other = c.args.other.now in
    let quiet = c.read_file.ensures.quiet in
    let h1 = c.read_file-2.ensures.quiet.honest honest in
    let h0 = quiet.honest h1 in
    same_files (d0.seen one) (d0.seen other) _ _ _ (c.requires.one h0) (c.requires.other h0)
    (c.as_slice.ensures.value ∙ c.in_ok-first.ensures.bytes h1)
    (c.as_slice-2.ensures.value ∙ c.in_ok-second.ensures.bytes honest ∙ ap bytes_in (quiet.seen other))
    c.eq.ensures
