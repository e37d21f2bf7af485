use Rattle.std.proofs.Common.{◌≡◌, ◌+◌, ◌-◌, length, arith}
use Rattle.std.proofs.lemmas.Result.{err_from_is_err_and}
use Rattle.echo_packet.proofs.Strings.{breaks-more, past-more}
use Rattle.echo_packet.proofs.field.read_string.Goals as goal

pub returns-in_err-take_piece-clause-broken : goal.returns-in_err-take_piece-clause-broken
returns-in_err-take_piece-clause-broken g c = grind (arith, err_from_is_err_and c.from_residual.result c.from_residual.ensures.1, breaks-more)

pub returns-in-TooLong-clause-too_long : goal.returns-in-TooLong-clause-too_long
returns-in-TooLong-clause-too_long g c =
    let so_far = c.pieces.invariant in
    let fits : length c.pieces.string.items + (c.args.most - c.len.result) ≡ c.args.most = omega arith in
    past-more c.args.most _ _ _ _ c.pieces.string.items so_far.took so_far.no_zero fits (rw c.in-TooLong.is at c.in_ok-take_piece.ensures.step)
