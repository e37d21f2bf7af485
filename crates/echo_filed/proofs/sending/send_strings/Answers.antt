use Rattle.std.proofs.Common.{◌≡◌, ◌∙◌, ◌++◌, ap}
use Rattle.disk_io.proofs.Devices.{SendsAll-front, SendsFront-more}
use Rattle.echo_packet.proofs.SentMessage.{SendsAll-as, SendsFront-as, Sends-at_err, Sends-behind}
use Rattle.echo_filed.specs.Stored.{after_length}
use Rattle.echo_filed.proofs.Sendings.{Sends-as}
use Rattle.echo_filed.proofs.sending.send_strings.Goals as goal

pub returns-in_err-send_string-clause-bytes : goal.returns-in_err-send_string-clause-bytes
returns-in_err-send_string-clause-bytes g c =
    let m = c.args.message.now in
    let to : c.as_slice.result.now ≡ m.to_name = c.as_slice.ensures ∙ ap (λ v. v.to_name) c.message.view_is in
    let part = SendsFront-as _ _ (after_length c.as_slice.result.now) (after_length m.to_name) _ _ (ap after_length to) c.in_err-send_string.ensures.bytes in
    Sends-at_err _ _ c.from_residual.result _ _ _ _ c.from_residual.ensures.1
    (SendsFront-more _ _ (after_length m.to_name) (after_length m.from_name ++ after_length m.subject) _ _ part)

pub returns-in_err-send_string-2-clause-bytes : goal.returns-in_err-send_string-2-clause-bytes
returns-in_err-send_string-2-clause-bytes g c =
    let m = c.args.message.now in
    let to : c.as_slice.result.now ≡ m.to_name = c.as_slice.ensures ∙ ap (λ v. v.to_name) c.message.view_is in
    let from : c.as_slice-2.result.now ≡ m.from_name = c.as_slice-2.ensures ∙ ap (λ v. v.from_name) c.message.view_is in
    let first = SendsAll-as _ _ (after_length c.as_slice.result.now) (after_length m.to_name) _ _ (ap after_length to) c.in_ok-send_string.ensures.bytes in
    let part = SendsFront-as _ _ (after_length c.as_slice-2.result.now) (after_length m.from_name) _ _ (ap after_length from) c.in_err-send_string-2.ensures.bytes in
    Sends-at_err _ _ c.from_residual-in_err-send_string-2.result _ _ _ _ c.from_residual-in_err-send_string-2.ensures.1
    (SendsAll-front _ _ _ (after_length m.to_name) (after_length m.from_name ++ after_length m.subject) _ _ _ first
    (SendsFront-more _ _ (after_length m.from_name) (after_length m.subject) _ _ part))

pub returns-clause-bytes : goal.returns-clause-bytes
returns-clause-bytes g c =
    let m = c.args.message.now in
    let to : c.as_slice.result.now ≡ m.to_name = c.as_slice.ensures ∙ ap (λ v. v.to_name) c.message.view_is in
    let from : c.as_slice-2.result.now ≡ m.from_name = c.as_slice-2.ensures ∙ ap (λ v. v.from_name) c.message.view_is in
    let subject : c.as_slice-3.result.now ≡ m.subject = c.as_slice-3.ensures ∙ ap (λ v. v.subject) c.message.view_is in
    let first = SendsAll-as _ _ (after_length c.as_slice.result.now) (after_length m.to_name) _ _ (ap after_length to) c.in_ok-send_string.ensures.bytes in
    let second = SendsAll-as _ _ (after_length c.as_slice-2.result.now) (after_length m.from_name) _ _ (ap after_length from) c.in_ok-send_string-2.ensures.bytes in
    let third = Sends-as _ _ c.send_string-3.result (after_length c.as_slice-3.result.now) (after_length m.subject) _ _ (ap after_length subject) c.send_string-3.ensures.bytes in
    Sends-behind _ _ _ c.send_string-3.result (after_length m.to_name) (after_length m.from_name ++ after_length m.subject) _ _ _ first
    (Sends-behind _ _ _ c.send_string-3.result (after_length m.from_name) (after_length m.subject) _ _ _ second third)
