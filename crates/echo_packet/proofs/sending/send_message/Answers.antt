use Rattle.echo_packet.specs.Message.{ToName, FromName, Subject, before, readdressed}
use Rattle.echo_packet.proofs.SentMessage.{SendsAll-as, SendsFront-as, Sends-at_err, string_sent, string_part, part-fixed, part-to_name, part-from_name, part-subject, text_sent}
use Rattle.echo_packet.proofs.sending.send_message.Goals as goal

pub returns-in_err-send-clause-bytes : goal.returns-in_err-send-clause-bytes
returns-in_err-send-clause-bytes g c =
    let m = readdressed c.args.message.now c.args.dest_node c.args.dest_net in
    let part = SendsFront-as _ _ c.fixed_bytes.result (before ToName m) _ _ c.fixed_bytes.ensures c.in_err-send.ensures.bytes in
    Sends-at_err _ _ c.from_residual.result _ _ _ _ c.from_residual.ensures.1 (part-fixed _ _ m _ _ part)

pub returns-in_err-send_string-clause-bytes : goal.returns-in_err-send_string-clause-bytes
returns-in_err-send_string-clause-bytes g c =
    let m = readdressed c.args.message.now c.args.dest_node c.args.dest_net in
    let fixed = SendsAll-as _ _ c.fixed_bytes.result (before ToName m) _ _ c.fixed_bytes.ensures c.in_ok-send.ensures.bytes in
    let part = string_part _ _ _ (before ToName m) c.to_name.result.now m.to_name _ _ _ fixed c.to_name.ensures c.in_err-send_string.ensures.bytes in
    Sends-at_err _ _ c.from_residual-in_err-send_string.result _ _ _ _ c.from_residual-in_err-send_string.ensures.1 (part-to_name _ _ m _ _ part)

pub returns-in_err-send_string-2-clause-bytes : goal.returns-in_err-send_string-2-clause-bytes
returns-in_err-send_string-2-clause-bytes g c =
    let m = readdressed c.args.message.now c.args.dest_node c.args.dest_net in
    let fixed = SendsAll-as _ _ c.fixed_bytes.result (before ToName m) _ _ c.fixed_bytes.ensures c.in_ok-send.ensures.bytes in
    let to = string_sent _ _ _ (before ToName m) c.to_name.result.now m.to_name _ _ _ fixed c.to_name.ensures c.in_ok-send_string.ensures.bytes in
    let part = string_part _ _ _ (before FromName m) c.from_name.result.now m.from_name _ _ _ to c.from_name.ensures c.in_err-send_string-2.ensures.bytes in
    Sends-at_err _ _ c.from_residual-in_err-send_string-2.result _ _ _ _ c.from_residual-in_err-send_string-2.ensures.1 (part-from_name _ _ m _ _ part)

pub returns-in_err-send_string-3-clause-bytes : goal.returns-in_err-send_string-3-clause-bytes
returns-in_err-send_string-3-clause-bytes g c =
    let m = readdressed c.args.message.now c.args.dest_node c.args.dest_net in
    let fixed = SendsAll-as _ _ c.fixed_bytes.result (before ToName m) _ _ c.fixed_bytes.ensures c.in_ok-send.ensures.bytes in
    let to = string_sent _ _ _ (before ToName m) c.to_name.result.now m.to_name _ _ _ fixed c.to_name.ensures c.in_ok-send_string.ensures.bytes in
    let from = string_sent _ _ _ (before FromName m) c.from_name.result.now m.from_name _ _ _ to c.from_name.ensures c.in_ok-send_string-2.ensures.bytes in
    let part = string_part _ _ _ (before Subject m) c.subject.result.now m.subject _ _ _ from c.subject.ensures c.in_err-send_string-3.ensures.bytes in
    Sends-at_err _ _ c.from_residual-in_err-send_string-3.result _ _ _ _ c.from_residual-in_err-send_string-3.ensures.1 (part-subject _ _ m _ _ part)

pub returns-clause-bytes : goal.returns-clause-bytes
returns-clause-bytes g c =
    let m = readdressed c.args.message.now c.args.dest_node c.args.dest_net in
    let fixed = SendsAll-as _ _ c.fixed_bytes.result (before ToName m) _ _ c.fixed_bytes.ensures c.in_ok-send.ensures.bytes in
    let to = string_sent _ _ _ (before ToName m) c.to_name.result.now m.to_name _ _ _ fixed c.to_name.ensures c.in_ok-send_string.ensures.bytes in
    let from = string_sent _ _ _ (before FromName m) c.from_name.result.now m.from_name _ _ _ to c.from_name.ensures c.in_ok-send_string-2.ensures.bytes in
    let subject = string_sent _ _ _ (before Subject m) c.subject.result.now m.subject _ _ _ from c.subject.ensures c.in_ok-send_string-3.ensures.bytes in
    text_sent _ _ _ c.send_string-4.result m c.text.result.now _ _ _ subject c.text.ensures.text c.send_string-4.ensures.bytes
