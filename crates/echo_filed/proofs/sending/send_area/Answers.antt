use Rattle.std.proofs.Common.{◌∷◌, []}
use Rattle.disk_io.proofs.Devices.{SendsAll-front, SendsFront-more}
use Rattle.echo_packet.proofs.SentMessage.{Sends-at_err, Sends-behind}
use Rattle.echo_text.specs.{Lines.area_word, Echo.ended}
use Rattle.echo_filed.proofs.sending.send_area.Goals as goal

pub returns-in_err-send-clause-bytes : goal.returns-in_err-send-clause-bytes
returns-in_err-send-clause-bytes g c =
    Sends-at_err _ _ c.from_residual.result _ _ _ _ c.from_residual.ensures.1
    (SendsFront-more _ _ area_word (ended c.args.tag.now) _ _ c.in_err-send.ensures.bytes)

pub returns-in_err-send-2-clause-bytes : goal.returns-in_err-send-2-clause-bytes
returns-in_err-send-2-clause-bytes g c =
    let tag = c.args.tag.now in
    Sends-at_err _ _ c.from_residual-in_err-send-2.result _ _ _ _ c.from_residual-in_err-send-2.ensures.1
    (SendsAll-front _ _ _ area_word (ended tag) _ _ _ c.in_ok-send.ensures.bytes
    (SendsFront-more _ _ tag (13 ∷ []) _ _ c.in_err-send-2.ensures.bytes))

pub returns-clause-bytes : goal.returns-clause-bytes
returns-clause-bytes g c =
    let tag = c.args.tag.now in
    Sends-behind _ _ _ c.send-3.result area_word (ended tag) _ _ _ c.in_ok-send.ensures.bytes
    (Sends-behind _ _ _ c.send-3.result tag (13 ∷ []) _ _ _ c.in_ok-send-2.ensures.bytes c.send-3.ensures.bytes)
