use Rattle.{std.proofs.{Common.{◌+◌, ◌++◌, ◌∷◌, [], refl, ◌∙◌, arith}, lemmas.Result.err_from_is_err_and}, echo_packet.specs.Header.header_bytes}
use Rattle.{echo_packet.proofs.Slices.{slice-opens, slice-gives, slice-ends}, cmd_status.specs.{Devices.output_of, Limits.show_limits}}
use Rattle.cmd_show.proofs.Printed.{end_printed, header_printed, message_printed, message_refused, message_stops, no_header, no_memory, shorter}
use Rattle.cmd_show.proofs.showing.show_opened.Goals as goal

pub returns-in_err-add_header : goal.returns-in_err-add_header
returns-in_err-add_header g c = grind (arith, err_from_is_err_and, no_header)

pub messages-init : goal.messages-init
messages-init g c = grind (arith, slice-opens, header_printed)

pub returns-in_err-message : goal.returns-in_err-message
returns-in_err-message g c =
    let before = c.messages.invariant in
    let e = c.in_err-message.ensures in
    let p = err_from_is_err_and c.from_residual-in_err-message.result c.from_residual-in_err-message.ensures.1 in
    rw (p.1, p.2)
    (message_refused c.args.full (header_bytes c.args.reader.now.header ++ c.args.reader.now.source.now) _ _ _ _ _ _ _ _ (output_of g.W.Write.contents g.W.Sink.failures g.W.Sink.holds c.args.out.now) (output_of g.W.Write.contents g.W.Sink.failures g.W.Sink.holds c.messages.out) _ _ c.in_err-message.field-0.0
    before.printed (e.fault before.printed.so_far.reading) e.device before.failed)

pub messages-smaller : goal.messages-smaller
messages-smaller g c = grind (arith, shorter)

pub returns-in_err-pass_message : goal.returns-in_err-pass_message
returns-in_err-pass_message g c =
    let before = c.messages.invariant.printed in
    let so = before.so_far in
    let e = c.in_ok-message.ensures in
    let within = rw c.in-Some.is at (e.within so.reading) in
    let taken = rw c.in-Some.is at (e.taken so.reading) in
    let place = rw c.in-Some.is at (e.place so.reading) in
    let on = rw c.in-Some.is at (e.goes_on so.reading) in
    let given = slice-gives show_limits (header_bytes c.args.reader.now.header ++ c.args.reader.now.source.now) before.messages (before.messages ++ c.in-Some.message ∷ []) _ _ _ _ _ _ _ _ _ _ _ _ c.in-Some.message so e.front within taken place on refl in
    let p = err_from_is_err_and c.from_residual-in_err-pass_message.result c.from_residual-in_err-pass_message.ensures.1 in
    rw (p.1, p.2)
    (message_stops c.args.full (header_bytes c.args.reader.now.header ++ c.args.reader.now.source.now) _ _ _ _ _ _ _ _ _ _ _ _ _ _ c.pass_message.new.lines.items (output_of g.W.Write.contents g.W.Sink.failures g.W.Sink.holds c.args.out.now) (output_of g.W.Write.contents g.W.Sink.failures g.W.Sink.holds c.messages.out) (output_of g.W.Write.contents g.W.Sink.failures g.W.Sink.holds c.pass_message.new.out)
    c.messages.count (c.messages.count + 1) c.messages.place c.in-Some.message c.in_err-pass_message.field-0.0
    before given e.front.0 refl on.0 (omega (arith, c.requires.room)) c.messages.invariant.failed c.in_err-pass_message.ensures)

pub messages-preserved : goal.messages-preserved
messages-preserved g c =
    let before = c.messages.invariant.printed in
    let so = before.so_far in
    let e = c.in_ok-message.ensures in
    let within = rw c.in-Some.is at (e.within so.reading) in
    let taken = rw c.in-Some.is at (e.taken so.reading) in
    let place = rw c.in-Some.is at (e.place so.reading) in
    let on = rw c.in-Some.is at (e.goes_on so.reading) in
    let given = slice-gives show_limits (header_bytes c.args.reader.now.header ++ c.args.reader.now.source.now) before.messages (before.messages ++ c.in-Some.message ∷ []) _ _ _ _ _ _ _ _ _ _ _ _ c.in-Some.message so e.front within taken place on refl in
    let passed = c.in_ok-pass_message.ensures in
    record {
      printed = message_printed c.args.full (header_bytes c.args.reader.now.header ++ c.args.reader.now.source.now) _ _ _ _ _ _ _ _ _ _ _ _ _ _ c.pass_message.new.lines.items _ (g.W.Write.contents c.messages.out) (g.W.Write.contents c.pass_message.new.out) c.messages.count _ c.messages.place _ c.in-Some.message passed.0.lines
          before given e.front.0 refl on.0 c.place-place-in-Some.ensures (omega (arith, c.requires.room)) passed.0.are passed.0.passed;
      failed = passed.1 ∙ c.messages.invariant.failed;
    }

pub returns-in_err-add_end : goal.returns-in_err-add_end
returns-in_err-add_end g c = grind (arith, err_from_is_err_and, no_memory)

pub returns : goal.returns
returns g c =
    let before = c.messages.invariant.printed in
    let so = before.so_far in
    let e = c.in_ok-message.ensures in
    let taken = rw c.in_default.is at (e.taken so.reading) in
    let place = rw c.in_default.is at (e.place so.reading) in
    let found = slice-ends show_limits (header_bytes c.args.reader.now.header ++ c.args.reader.now.source.now) before.messages _ _ _ _ _ _ _ _ c.next.new.self.place _ so e.front taken place (omega (arith, c.requires.room)) in
    let line = rw c.place.ensures at c.in_ok-add_end.ensures.lines in (
      refl,
      end_printed c.args.full (header_bytes c.args.reader.now.header ++ c.args.reader.now.source.now) _ _ _ _ _ _ _ _ _ c.add_end.new.lines.items (g.W.Write.contents c.args.out.now) (g.W.Write.contents c.messages.out) c.messages.count _ c.next.new.self.place before e.front.0 found line,
      c.messages.invariant.failed,
    )
