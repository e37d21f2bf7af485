use Rattle.std.proofs.{Common.ℕ, Common.◌++◌, Common.◌∙◌, Common.ap, lemmas.Result.on_ok_weaker}
use Rattle.echo_filed.specs.{Filed.Filed, Stored.long}
use Rattle.echo_text.specs.Echo.{msgid_of, reply_of}
use Rattle.echo_jam.specs.JamMessage.{id_crc}
use Rattle.echo_stored.proofs.Joins.{joined}
use Rattle.echo_jam.proofs.message.push_ids.Goals as goal

pub returns : goal.returns
returns c =
    let m = c.args.message.now in
    let own = c.id_crc.ensures ∙ ap id_crc c.msgid.ensures ∙ ap (λ (f : Filed). id_crc (msgid_of f.echo.kept)) c.message.view_is in
    let other = c.id_crc-2.ensures ∙ ap id_crc c.reply.ensures ∙ ap (λ (f : Filed). id_crc (reply_of f.echo.kept)) c.message.view_is in
    on_ok_weaker c.push_long-5.result
    (λ last.
    joined _ (long (id_crc (msgid_of m.echo.kept))) _ _ _ (c.in_ok-push_long.ensures ∙ ap (λ (n : ℕ). c.args.header.now.items ++ long n) own)
    (joined _ (long (id_crc (reply_of m.echo.kept))) _ _ _ (c.in_ok-push_long-2.ensures ∙ ap (λ (n : ℕ). c.push_long.new.bytes.items ++ long n) other)
    (joined _ (long 0) _ _ _ c.in_ok-push_long-3.ensures (joined _ (long 0) _ _ _ c.in_ok-push_long-4.ensures last))))
    c.push_long-5.ensures
