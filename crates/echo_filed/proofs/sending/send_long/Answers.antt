use Rattle.std.proofs.Common.{length}
use Rattle.echo_filed.specs.Stored.{long}
use Rattle.disk_io.proofs.Devices.{SendsFront-more}
use Rattle.echo_packet.proofs.SentMessage.{SendsAll-as, SendsFront-as, Sends-at_err, Sends-behind}
use Rattle.echo_filed.proofs.sending.send_long.Goals as goal

pub returns-in_err-send-clause-bytes : goal.returns-in_err-send-clause-bytes
returns-in_err-send-clause-bytes g c =
    let s = c.args.bytes.now in
    let part = SendsFront-as _ _ c.long_bytes.result (long (length s)) _ _ c.long_bytes.ensures c.in_err-send.ensures.bytes in
    Sends-at_err _ _ c.from_residual.result _ _ _ _ c.from_residual.ensures.1 (SendsFront-more _ _ (long (length s)) s _ _ part)

pub returns-clause-bytes : goal.returns-clause-bytes
returns-clause-bytes g c =
    let s = c.args.bytes.now in
    let first = SendsAll-as _ _ c.long_bytes.result (long (length s)) _ _ c.long_bytes.ensures c.in_ok-send.ensures.bytes in
    Sends-behind _ _ _ c.send-2.result (long (length s)) s _ _ _ first c.send-2.ensures.bytes
