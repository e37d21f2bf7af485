use Rattle.std.proofs.{Common.[], Common.◌∷◌, lemmas.Result.on_ok_weaker}
use Rattle.echo_filed.specs.Stored.{long}
use Rattle.echo_packet.specs.Header.{word}
use Rattle.echo_stored.proofs.Joins.{joined}
use Rattle.echo_jam.proofs.message.push_front.Goals as goal

pub returns : goal.returns
returns c =
    on_ok_weaker c.push_long-2.result
    (λ last.
    joined _ (74 ∷ 65 ∷ 77 ∷ 0 ∷ []) _ _ _ c.in_ok-extend_from_slice.ensures.items
    (joined _ (word 1) _ _ _ c.in_ok-push_word.ensures (joined _ (word 0) _ _ _ c.in_ok-push_word-2.ensures (joined _ (long c.args.count) _ _ _ c.in_ok-push_long.ensures last))))
    c.push_long-2.ensures
