use Rattle.std.proofs.Common.{◌≢◌, ◌≤◌, ◌∙◌, arith, length, sym}
use Rattle.echo_text.proofs.IdTests.{parts_found}
use Rattle.echo_text.proofs.msgid.parts_of.Goals as goal

pub returns : goal.returns
returns c =
    let room : 8 ≤ length c.args.id.now = omega arith in
    let line = sym c.is_line.ensures ∙ c.if-not-is_line.false in
    let apart : length c.without_gap-spelled.result.now ≢ length c.split_at.result.0.now = omega arith in
    let serial = c.in_ok-serial.ensures in
    parts_found c.args.id.now c.split_at.result.0.now c.split_at.result.1.now c.without_gap-spelled.result.now c.in_ok-origin.origin.now
    c.in_ok-origin.quoted c.in_ok-serial.serial room line c.split_at.ensures.front c.split_at.ensures.back c.without_gap-spelled.ensures.value
    apart serial.0 serial.1 c.in_ok-origin.ensures
