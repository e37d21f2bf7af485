use Rattle.std.proofs.{Common.Option, Common.inr, Common.subst, Common.arith, lemmas.Result.err_from_is_err_and}
use Rattle.echo_packet.specs.{Message.Message, Next.NextFault}
use Rattle.echo_packet.proofs.Slices.{slice-opens, slice-gives, slice-ends, slice-fails}
use Rattle.echo_packet.proofs.reading.read_messages.Goals as goal

pub messages-init : goal.messages-init
messages-init c = grind (arith, slice-opens)

pub returns-in_err-message : goal.returns-in_err-message
returns-in_err-message c =
    let so = c.messages.invariant in
    let e = c.in_err-message.ensures in
    let wrong = subst (λ l. NextFault l c.messages.reader.given c.messages.reader.place c.messages.reader.source.now c.in_err-message.field-0.0) so.same (e.fault so.reading) in
    let p = err_from_is_err_and c.from_residual-in_err-message.result c.from_residual-in_err-message.ensures.1 in
    rw (p.1, p.2) (slice-fails (Option Message) c.args.limits c.args.bytes.now _ _ _ _ _ c.in_err-message.field-0.0 so.so_far wrong e.device)

pub messages-preserved : goal.messages-preserved
messages-preserved c =
    let so = c.messages.invariant in
    let within = rw c.in-Some.is at (c.in_ok-message.ensures.within so.reading) in
    let taken = rw c.in-Some.is at (c.in_ok-message.ensures.taken so.reading) in
    let place = rw c.in-Some.is at (c.in_ok-message.ensures.place so.reading) in
    let on = rw c.in-Some.is at (c.in_ok-message.ensures.goes_on so.reading) in
    slice-gives c.args.limits c.args.bytes.now c.messages.messages.items _ _ _ _ _ _ _ _ _ _ _ _ _ c.in-Some.message so c.in_ok-message.ensures.front within taken place on
    c.in_ok-push-in-Some.ensures.items

pub returns : goal.returns
returns c =
    let so = c.messages.invariant in
    let taken = rw c.in-None.is at (c.in_ok-message.ensures.taken so.reading) in
    let place = rw c.in-None.is at (c.in_ok-message.ensures.place so.reading) in
    rw (c.header.ensures, c.place.ensures)
    (inr (slice-ends c.args.limits c.args.bytes.now c.messages.messages.items _ _ _ _ _ _ _ _ _ _ so c.in_ok-message.ensures.front taken place (omega arith)))
