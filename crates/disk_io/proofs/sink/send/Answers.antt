use Rattle.std.proofs.{Common.◌∙◌, Common.refl, Common.ap, Common.length, Common.arith, Common.length-drop, lemmas.List.take_rest, KnownBytes.Appends-nil}
use Rattle.disk_io.proofs.Moving.{Appends-more_of}
use Rattle.disk_io.proofs.sink.send.Goals as goal

pub writes-init : goal.writes-init
writes-init g c = record { within = omega arith; gave = Appends-nil _; count = omega (arith, c.type_inv.before); failed = refl }

pub writes-preserved : goal.writes-preserved
writes-preserved g c =
    let more = c.in_ok-done.ensures in
    let rest = take_rest c.args.bytes.now c.writes.done in
    let more_bytes = more.bytes in
    record {
      within = omega (arith, more.bound, ap length rest, length-drop c.writes.done c.args.bytes.now, c.writes-test.true);
      gave = Appends-more_of _ _ _ c.args.bytes.now c.writes.done c.in_ok-done.field-0 c.writes.invariant.gave (rw rest at more_bytes);
      count = c.saturating_add.ensures;
      failed = more.ok ∙ c.writes.invariant.failed;
    }
