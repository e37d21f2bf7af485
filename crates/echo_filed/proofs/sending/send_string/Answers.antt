use Rattle.std.proofs.Common.{◌∷◌, [], length}
use Rattle.echo_packet.proofs.SentMessage.{Sends-behind}
use Rattle.echo_filed.proofs.sending.send_string.Goals as goal

pub returns-clause-bytes : goal.returns-clause-bytes
returns-clause-bytes g c =
    let s = c.args.string.now in
    Sends-behind _ _ _ c.send-2.result (length s ∷ []) s _ _ _ c.in_ok-send.ensures.bytes c.send-2.ensures.bytes
