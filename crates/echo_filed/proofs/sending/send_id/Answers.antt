use Rattle.std.proofs.Common.{◌≡◌, ◌∙◌, [], ap}
use Rattle.std.specs.Prelude.{unwrap_or}
use Rattle.disk_io.proofs.Devices.{SendsFront-more}
use Rattle.echo_text.specs.Echo.{msgid_of}
use Rattle.echo_packet.proofs.SentMessage.{SendsAll-as, SendsFront-as, Sends-at_err, Sends-behind}
use Rattle.echo_filed.specs.Stored.{after_length, after_long_length}
use Rattle.echo_filed.proofs.Sendings.{Sends-as}
use Rattle.echo_filed.proofs.sending.send_id.Goals as goal

pub returns-in_err-send_string-clause-bytes : goal.returns-in_err-send_string-clause-bytes
returns-in_err-send_string-clause-bytes g c =
    let e = c.args.echo.now in
    let tag : c.as_slice.result.now ≡ e.tag = c.as_slice.ensures ∙ ap (λ v. v.tag) c.echo.view_is in
    let part = SendsFront-as _ _ (after_length c.as_slice.result.now) (after_length e.tag) _ _ (ap after_length tag) c.in_err-send_string.ensures.bytes in
    Sends-at_err _ _ c.from_residual.result _ _ _ _ c.from_residual.ensures.1
    (SendsFront-more _ _ (after_length e.tag) (after_long_length (unwrap_or (msgid_of e.kept) [])) _ _ part)

pub returns-clause-bytes : goal.returns-clause-bytes
returns-clause-bytes g c =
    let e = c.args.echo.now in
    let tag : c.as_slice.result.now ≡ e.tag = c.as_slice.ensures ∙ ap (λ v. v.tag) c.echo.view_is in
    let first = SendsAll-as _ _ (after_length c.as_slice.result.now) (after_length e.tag) _ _ (ap after_length tag) c.in_ok-send_string.ensures.bytes in
    let second = Sends-as _ _ c.send_long.result (after_long_length c.id_of-id.result.now) (after_long_length (unwrap_or (msgid_of e.kept) [])) _ _
    (ap after_long_length c.id_of-id.ensures) c.send_long.ensures.bytes in
    Sends-behind _ _ _ c.send_long.result (after_length e.tag) (after_long_length (unwrap_or (msgid_of e.kept) [])) _ _ _ first second
