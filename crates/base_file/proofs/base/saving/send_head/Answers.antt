use Rattle.std.proofs.Common.{◌++◌}
use Rattle.disk_io.proofs.Devices.{SendsAll-front, SendsFront-more}
use Rattle.echo_packet.proofs.SentMessage.{SendsAll-as, SendsFront-as, Sends-at_err, Sends-behind}
use Rattle.echo_filed.specs.{declared.stored.Version.TheVariants.Second, Stored.long}
use Rattle.echo_filed.proofs.Sendings.{Sends-as}
use Rattle.base_file.specs.BaseFile.{head_bytes, magic}
use Rattle.base_file.proofs.base.saving.send_head.Goals as goal

pub returns-in_err-send-clause-bytes : goal.returns-in_err-send-clause-bytes
unfolding head_bytes
returns-in_err-send-clause-bytes g c =
    Sends-at_err _ _ c.from_residual.result _ _ _ _ c.from_residual.ensures.1
    (SendsFront-more _ _ (magic Second) (long c.args.cursor ++ long c.args.number) _ _ c.in_err-send.ensures.bytes)

pub returns-in_err-send-2-clause-bytes : goal.returns-in_err-send-2-clause-bytes
unfolding head_bytes
returns-in_err-send-2-clause-bytes g c =
    let cursor = long c.args.cursor in
    let part = SendsFront-as _ _ c.long_bytes.result cursor _ _ c.long_bytes.ensures c.in_err-send-2.ensures.bytes in
    Sends-at_err _ _ c.from_residual-in_err-send-2.result _ _ _ _ c.from_residual-in_err-send-2.ensures.1
    (SendsAll-front _ _ _ (magic Second) (cursor ++ long c.args.number) _ _ _ c.in_ok-send.ensures.bytes
    (SendsFront-more _ _ cursor (long c.args.number) _ _ part))

pub returns-clause-bytes : goal.returns-clause-bytes
unfolding head_bytes
returns-clause-bytes g c =
    let cursor = long c.args.cursor in
    let number = long c.args.number in
    let second = SendsAll-as _ _ c.long_bytes.result cursor _ _ c.long_bytes.ensures c.in_ok-send-2.ensures.bytes in
    let third = Sends-as _ _ c.send-3.result c.long_bytes-2.result number _ _ c.long_bytes-2.ensures c.send-3.ensures.bytes in
    Sends-behind _ _ _ c.send-3.result (magic Second) (cursor ++ number) _ _ _ c.in_ok-send.ensures.bytes
    (Sends-behind _ _ _ c.send-3.result cursor number _ _ _ second third)
