use Rattle.std.proofs.Common.{◌≡◌, ◌∙◌, ◌++◌, arith, ap, sym, subst, ℕ, length}
use Rattle.std.proofs.lemmas.{Bool.ltb-true, List.length-map}
use Rattle.disk_io.specs.Device.{Sends}
use Rattle.disk_io.proofs.Devices.{SendsFront-more}
use Rattle.echo_packet.proofs.SentMessage.{SendsAll-as, SendsFront-as, Sends-at_err, Sends-behind}
use Rattle.indexmap.specs.IndexMap.{values}
use Rattle.echo_filed.specs.declared.stored.Version.TheVariants.{Second}
use Rattle.echo_filed.proofs.Sendings.{Sends-as}
use Rattle.base_file.specs.BaseFile.{head_bytes, saved_bytes}
use Rattle.base_file.proofs.SavedMessages.{countable_parts, saved_parts, stored_all}
use Rattle.base_file.proofs.base.saving.send_base.Goals as goal

pub overflow_cast-cursor : goal.overflow_cast-cursor
overflow_cast-cursor g c =
    let all = values c.args.entries.now in
    let few = ltb-true (length all) _ (countable_parts c.args.cursor all c.requires.countable).0 in
    omega (arith, c.requires.within)

pub overflow_cast-len : goal.overflow_cast-len
overflow_cast-len g c =
    let all = values c.args.entries.now in
    let few = ltb-true (length all) _ (countable_parts c.args.cursor all c.requires.countable).0 in
    omega (arith, c.len.ensures.len, length-map c.args.entries.now.entries (λ e. e.1))

pub returns-in_err-send_head-clause-bytes : goal.returns-in_err-send_head-clause-bytes
returns-in_err-send_head-clause-bytes g c =
    let all = values c.args.entries.now in
    let cursor = c.args.cursor in
    let number : c.len.result ≡ length all = c.len.ensures.len ∙ sym (length-map c.args.entries.now.entries (λ e. e.1)) in
    let head = head_bytes Second cursor (length all) in
    let part = SendsFront-as _ _ (head_bytes Second cursor c.len.result) head _ _ (ap (head_bytes Second cursor) number) c.in_err-send_head.ensures.bytes in
    let P : ℕ → Type 0 = λ n. Sends (g.W.Write.contents c.args.writer.now) (g.W.Write.contents c.send_head.new.writer) c.from_residual.result (saved_bytes all cursor) n c.send_head.new.sent in
    subst P c.requires.count
    (Sends-at_err _ _ c.from_residual.result _ _ _ _ c.from_residual.ensures.1
    (SendsFront-as _ _ (head ++ stored_all cursor all) (saved_bytes all cursor) _ _ (saved_parts cursor all) (SendsFront-more _ _ head (stored_all cursor all) _ _ part)))

pub send_messages-requires-clause-room : goal.send_messages-requires-clause-room
send_messages-requires-clause-room g c = (countable_parts c.args.cursor (values c.args.entries.now) c.requires.countable).1

pub returns-clause-bytes : goal.returns-clause-bytes
returns-clause-bytes g c =
    let all = values c.args.entries.now in
    let cursor = c.args.cursor in
    let number : c.len.result ≡ length all = c.len.ensures.len ∙ sym (length-map c.args.entries.now.entries (λ e. e.1)) in
    let head = head_bytes Second cursor (length all) in
    let first = SendsAll-as _ _ (head_bytes Second cursor c.len.result) head _ _ (ap (head_bytes Second cursor) number) c.in_ok-send_head.ensures.bytes in
    let P : ℕ → Type 0 = λ n. Sends (g.W.Write.contents c.args.writer.now) (g.W.Write.contents c.send_messages.new.writer) c.send_messages.result (saved_bytes all cursor) n c.send_messages.new.sent in
    subst P c.requires.count
    (Sends-as _ _ c.send_messages.result (head ++ stored_all cursor all) (saved_bytes all cursor) _ _ (saved_parts cursor all)
    (Sends-behind _ _ _ c.send_messages.result head (stored_all cursor all) _ _ _ first c.send_messages.ensures.bytes))
