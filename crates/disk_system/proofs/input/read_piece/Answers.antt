use Rattle.std.proofs.{Common.◌≡◌, Common.arith, Common.length, lemmas.List.with_items_is}
use Rattle.disk_system.proofs.Inputs.{piece_read}
use Rattle.disk_system.proofs.input.read_piece.Goals as goal

pub returns-clause-bytes : goal.returns-clause-bytes
returns-clause-bytes g c =
    let filled = c.in_ok-came.ensures in
    let made = c.make_room.new.whole in
    let buf = c.fill_buffer.new.buf in
    let same : length buf ≡ made.len = omega (arith, c.fill_buffer.auto.buf, c.as_mut_slice.ensures.len) in
    piece_read _ _ c.args.whole.now.items made.items buf c.truncate.new.self.items c.len-start.result c.in_ok-came.came
    (omega (arith, c.len-start.ensures, c.args.whole.now.ok.0)) c.in_ok-make_room.ensures.ok
    (rw c.as_mut_slice.ensures.value at filled.front) (omega (arith, same, made.ok.0)) filled.within filled.bytes
    (rw (with_items_is made buf same) at c.truncate.ensures.items)
