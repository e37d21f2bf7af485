use Rattle.std.proofs.Common.{◌∙◌, ◌+◌, ◌++◌, suc, drop, take, ap}
use Rattle.std.specs.List.{flat_map}
use Rattle.disk_io.proofs.Devices.{SendsAll-front, SendsAll-then, SendsFront-more}
use Rattle.echo_packet.proofs.SentMessage.{SendsAll-as, SendsFront-as, Sends-at_err}
use Rattle.indexmap.specs.IndexMap.{values}
use Rattle.echo_filed.specs.{declared.stored.Version.TheVariants.Second, Stored.is_short_enough, Stored.stored_as, Stored.stored_bytes}
use Rattle.base_file.specs.BaseFile.{stored_at, stored_from}
use Rattle.base_file.proofs.SavedMessages.{all_more, all_parts, enough_here, stored_all, stored_here}
use Rattle.base_file.proofs.base.saving.send_messages.Goals as goal

pub send_message-requires-clause-room : goal.send_message-requires-clause-room
send_message-requires-clause-room g c =
    let m = c.index-message.result.now in
    ap is_short_enough (stored_here c.args.cursor c.messages.i m c.is_short-short.result c.is_short-short.ensures)
    ∙ enough_here c.args.cursor c.messages.i (values c.args.entries.now) m c.index-message.ensures c.requires.room

pub returns-in_err-send_message-clause-bytes : goal.returns-in_err-send_message-clause-bytes
returns-in_err-send_message-clause-bytes g c =
    let m = c.index-message.result.now in
    let cursor = c.args.cursor in
    let i = c.messages.i in
    let all = values c.args.entries.now in
    let here = ap (stored_bytes Second) (stored_here cursor i m c.is_short-short.result c.is_short-short.ensures) in
    let later = flat_map (stored_bytes Second) (stored_from cursor (i + 1) (drop (suc i) all)) in
    let one = stored_bytes Second (stored_at cursor i m) in
    let part = SendsFront-as _ _ (stored_bytes Second (stored_as c.is_short-short.result m)) one _ _ here c.in_err-send_message.ensures.bytes in
    Sends-at_err _ _ c.from_residual.result _ _ _ _ c.from_residual.ensures.1
    (SendsFront-as _ _ (stored_all cursor (take i all) ++ (one ++ later)) (stored_all cursor all) _ _ (all_parts cursor i all m c.index-message.ensures)
    (SendsAll-front _ _ _ (stored_all cursor (take i all)) (one ++ later) _ _ _ c.messages.invariant.went (SendsFront-more _ _ one later _ _ part)))

pub messages-preserved : goal.messages-preserved
messages-preserved g c =
    let m = c.index-message.result.now in
    let cursor = c.args.cursor in
    let i = c.messages.i in
    let all = values c.args.entries.now in
    let here = ap (stored_bytes Second) (stored_here cursor i m c.is_short-short.result c.is_short-short.ensures) in
    let one = stored_bytes Second (stored_at cursor i m) in
    let whole = SendsAll-as _ _ (stored_bytes Second (stored_as c.is_short-short.result m)) one _ _ here c.in_ok-send_message.ensures.bytes in
    record {
      went = SendsAll-as _ _ (stored_all cursor (take i all) ++ one) (stored_all cursor (take (i + 1) all)) _ _ (all_more cursor i all m c.index-message.ensures)
          (SendsAll-then _ _ _ (stored_all cursor (take i all)) one _ _ _ c.messages.invariant.went whole);
      failed = c.in_ok-send_message.ensures.device ∙ c.messages.invariant.failed;
    }
