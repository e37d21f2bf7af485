use Rattle.std.proofs.{Common.{ℕ, ◌++◌, ◌∙◌, ap, length}, lemmas.Result.on_ok_weaker}
use Rattle.echo_jam.specs.JamMessage.{header_back, header_front, header_ids}
use Rattle.echo_stored.proofs.Joins.{joined}
use Rattle.echo_jam.proofs.message.push_header.Goals as goal

pub returns : goal.returns
returns c =
    let m = c.args.message.now in
    on_ok_weaker c.push_bytes.result
    (λ last.
    joined _ (header_front (length c.args.fields.now)) _ _ _ (c.in_ok-push_front.ensures ∙ ap (λ (n : ℕ). c.args.header.now.items ++ header_front n) c.in_ok-count_of.ensures)
    (joined _ (header_ids m) _ _ _ c.in_ok-push_ids.ensures
    (joined _ (header_back c.args.scanned m c.args.number c.args.place c.args.size) _ _ _ c.in_ok-push_back.ensures last)))
    c.push_bytes.ensures
