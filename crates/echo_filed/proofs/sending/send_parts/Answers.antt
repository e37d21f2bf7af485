use Rattle.std.proofs.Common.{◌≡◌, ◌∙◌, ◌++◌, length, ap}
use Rattle.disk_io.proofs.Devices.{SendsAll-front, SendsFront-more}
use Rattle.echo_packet.proofs.SentMessage.{SendsAll-as, SendsFront-as, Sends-at_err, Sends-behind}
use Rattle.echo_text.specs.{Lines.area_word, Echo.ended}
use Rattle.echo_filed.specs.{Stored.long, Sending.text_with}
use Rattle.echo_filed.proofs.sending.send_parts.Goals as goal

pub returns-in_err-send-clause-bytes : goal.returns-in_err-send-clause-bytes
returns-in_err-send-clause-bytes g c =
    let text = text_with c.args.tag.now c.args.kept.now c.args.lines.now in
    let count : c.long_bytes.result ≡ long (length text) = c.long_bytes.ensures ∙ ap long c.text_len.ensures in
    let part = SendsFront-as _ _ c.long_bytes.result (long (length text)) _ _ count c.in_err-send.ensures.bytes in
    Sends-at_err _ _ c.from_residual.result _ _ _ _ c.from_residual.ensures.1 (SendsFront-more _ _ (long (length text)) text _ _ part)

pub returns-in_err-send_area-clause-bytes : goal.returns-in_err-send_area-clause-bytes
returns-in_err-send_area-clause-bytes g c =
    let text = text_with c.args.tag.now c.args.kept.now c.args.lines.now in
    let count : c.long_bytes.result ≡ long (length text) = c.long_bytes.ensures ∙ ap long c.text_len.ensures in
    let first = SendsAll-as _ _ c.long_bytes.result (long (length text)) _ _ count c.in_ok-send.ensures.bytes in
    Sends-at_err _ _ c.from_residual-in_err-send_area.result _ _ _ _ c.from_residual-in_err-send_area.ensures.1
    (SendsAll-front _ _ _ (long (length text)) text _ _ _ first
    (SendsFront-more _ _ (ended (area_word ++ c.args.tag.now)) (c.args.kept.now ++ c.args.lines.now) _ _ c.in_err-send_area.ensures.bytes))

pub returns-in_err-send-2-clause-bytes : goal.returns-in_err-send-2-clause-bytes
returns-in_err-send-2-clause-bytes g c =
    let text = text_with c.args.tag.now c.args.kept.now c.args.lines.now in
    let count : c.long_bytes.result ≡ long (length text) = c.long_bytes.ensures ∙ ap long c.text_len.ensures in
    let first = SendsAll-as _ _ c.long_bytes.result (long (length text)) _ _ count c.in_ok-send.ensures.bytes in
    Sends-at_err _ _ c.from_residual-in_err-send-2.result _ _ _ _ c.from_residual-in_err-send-2.ensures.1
    (SendsAll-front _ _ _ (long (length text)) text _ _ _ first
    (SendsAll-front _ _ _ (ended (area_word ++ c.args.tag.now)) (c.args.kept.now ++ c.args.lines.now) _ _ _ c.in_ok-send_area.ensures.bytes
    (SendsFront-more _ _ c.args.kept.now c.args.lines.now _ _ c.in_err-send-2.ensures.bytes)))

pub returns-clause-bytes : goal.returns-clause-bytes
returns-clause-bytes g c =
    let text = text_with c.args.tag.now c.args.kept.now c.args.lines.now in
    let count : c.long_bytes.result ≡ long (length text) = c.long_bytes.ensures ∙ ap long c.text_len.ensures in
    let first = SendsAll-as _ _ c.long_bytes.result (long (length text)) _ _ count c.in_ok-send.ensures.bytes in
    Sends-behind _ _ _ c.send-3.result (long (length text)) text _ _ _ first
    (Sends-behind _ _ _ c.send-3.result (ended (area_word ++ c.args.tag.now)) (c.args.kept.now ++ c.args.lines.now) _ _ _ c.in_ok-send_area.ensures.bytes
    (Sends-behind _ _ _ c.send-3.result c.args.kept.now c.args.lines.now _ _ _ c.in_ok-send-2.ensures.bytes c.send-3.ensures.bytes))
