use Rattle.std.proofs.lemmas.Result.{on_ok_weaker}
use Rattle.echo_filed.specs.Stored.{long}
use Rattle.echo_stored.proofs.Joins.{joined}
use Rattle.echo_jam.specs.Fixed.{counts, jam_mark}
use Rattle.echo_jam.proofs.fixed.push_fixed.Goals as goal

pub returns : goal.returns
returns c =
    on_ok_weaker c.push_bytes-2.result
    (λ last.
    joined _ jam_mark _ _ _ c.in_ok-push_bytes.ensures
    (joined _ (long c.args.created) _ _ _ c.in_ok-push_long.ensures
    (joined _ (counts 0 0) _ _ _ c.in_ok-push_counts.ensures
    (joined _ (long 4294967295) _ _ _ c.in_ok-push_long-2.ensures (joined _ (long 1) _ _ _ c.in_ok-push_long-3.ensures last)))))
    c.push_bytes-2.ensures
