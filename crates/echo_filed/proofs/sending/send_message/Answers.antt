use Rattle.std.proofs.Common.{◌≡◌, ◌∙◌, ◌++◌, false, ap, sym}
use Rattle.disk_io.proofs.Devices.{SendsAll-front, SendsAll-then, SendsFront-more}
use Rattle.echo_packet.proofs.SentMessage.{SendsAll-as, SendsFront-as, Sends-at_err, Sends-behind}
use Rattle.echo_filed.specs.{Stored.Second, Stored.stored_as, Stored.stored_bytes, Sending.front_bytes, Sending.strings_bytes}
use Rattle.echo_filed.proofs.Sendings.{Sends-as, id_sent, last_sent, stored_parts}
use Rattle.echo_filed.proofs.sending.send_message.Goals as goal

pub returns-in_err-send-clause-bytes : goal.returns-in_err-send-clause-bytes
returns-in_err-send-clause-bytes g c =
    let m = c.args.message.now in
    let short = c.args.short in
    let front = front_bytes (stored_as short m) in
    let later = strings_bytes m.to_name m.from_name m.subject ++ last_sent short m in
    let part = SendsFront-as _ _ c.front_bytes.result front _ _ c.front_bytes.ensures c.in_err-send.ensures.bytes in
    Sends-at_err _ _ c.from_residual.result _ _ _ _ c.from_residual.ensures.1
    (SendsFront-as _ _ (front ++ later) (stored_bytes Second (stored_as short m)) _ _ (stored_parts short m) (SendsFront-more _ _ front later _ _ part))

pub returns-in_err-send_strings-clause-bytes : goal.returns-in_err-send_strings-clause-bytes
returns-in_err-send_strings-clause-bytes g c =
    let m = c.args.message.now in
    let short = c.args.short in
    let front = front_bytes (stored_as short m) in
    let strings = strings_bytes m.to_name m.from_name m.subject in
    let first = SendsAll-as _ _ c.front_bytes.result front _ _ c.front_bytes.ensures c.in_ok-send.ensures.bytes in
    Sends-at_err _ _ c.from_residual-in_err-send_strings.result _ _ _ _ c.from_residual-in_err-send_strings.ensures.1
    (SendsFront-as _ _ (front ++ (strings ++ last_sent short m)) (stored_bytes Second (stored_as short m)) _ _ (stored_parts short m)
    (SendsAll-front _ _ _ front (strings ++ last_sent short m) _ _ _ first
    (SendsFront-more _ _ strings (last_sent short m) _ _ c.in_err-send_strings.ensures.bytes)))

pub returns-in_err-send_id-clause-bytes : goal.returns-in_err-send_id-clause-bytes
returns-in_err-send_id-clause-bytes g c =
    let m = c.args.message.now in
    let short = c.args.short in
    let front = front_bytes (stored_as short m) in
    let strings = strings_bytes m.to_name m.from_name m.subject in
    let first = SendsAll-as _ _ c.front_bytes.result front _ _ c.front_bytes.ensures c.in_ok-send.ensures.bytes in
    let same : id_sent c.message.inside.echo ≡ last_sent short m = ap (λ v. id_sent v.echo) c.message.view_is ∙ ap (λ b. last_sent b m) (sym c.if-short.true) in
    let part = SendsFront-as _ _ (id_sent c.message.inside.echo) (last_sent short m) _ _ same c.in_err-send_id.ensures.bytes in
    Sends-at_err _ _ c.from_residual-in_err-send_id.result _ _ _ _ c.from_residual-in_err-send_id.ensures.1
    (SendsFront-as _ _ (front ++ (strings ++ last_sent short m)) (stored_bytes Second (stored_as short m)) _ _ (stored_parts short m)
    (SendsAll-front _ _ _ front (strings ++ last_sent short m) _ _ _ first
    (SendsAll-front _ _ _ strings (last_sent short m) _ _ _ c.in_ok-send_strings.ensures.bytes part)))

pub returns-in_ok-send_id-clause-bytes : goal.returns-in_ok-send_id-clause-bytes
returns-in_ok-send_id-clause-bytes g c =
    let m = c.args.message.now in
    let short = c.args.short in
    let front = front_bytes (stored_as short m) in
    let strings = strings_bytes m.to_name m.from_name m.subject in
    let first = SendsAll-as _ _ c.front_bytes.result front _ _ c.front_bytes.ensures c.in_ok-send.ensures.bytes in
    let same : id_sent c.message.inside.echo ≡ last_sent short m = ap (λ v. id_sent v.echo) c.message.view_is ∙ ap (λ b. last_sent b m) (sym c.if-short.true) in
    let id = SendsAll-as _ _ (id_sent c.message.inside.echo) (last_sent short m) _ _ same c.in_ok-send_id.ensures.bytes in
    SendsAll-as _ _ (front ++ (strings ++ last_sent short m)) (stored_bytes Second (stored_as short m)) _ _ (stored_parts short m)
    (SendsAll-then _ _ _ front (strings ++ last_sent short m) _ _ _ first
    (SendsAll-then _ _ _ strings (last_sent short m) _ _ _ c.in_ok-send_strings.ensures.bytes id))

pub returns-else-short-clause-bytes : goal.returns-else-short-clause-bytes
returns-else-short-clause-bytes g c =
    let m = c.args.message.now in
    let short = c.args.short in
    let front = front_bytes (stored_as short m) in
    let strings = strings_bytes m.to_name m.from_name m.subject in
    let first = SendsAll-as _ _ c.front_bytes.result front _ _ c.front_bytes.ensures c.in_ok-send.ensures.bytes in
    let same : last_sent false m ≡ last_sent short m = ap (λ b. last_sent b m) (sym c.if-short.false) in
    let text = Sends-as _ _ c.send_text.result (last_sent false m) (last_sent short m) _ _ same c.send_text.ensures.bytes in
    Sends-as _ _ c.send_text.result (front ++ (strings ++ last_sent short m)) (stored_bytes Second (stored_as short m)) _ _ (stored_parts short m)
    (Sends-behind _ _ _ c.send_text.result front (strings ++ last_sent short m) _ _ _ first
    (Sends-behind _ _ _ c.send_text.result strings (last_sent short m) _ _ _ c.in_ok-send_strings.ensures.bytes text))
