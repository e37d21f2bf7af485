use Rattle.std.proofs.lemmas.Result.{err_from_is_err_and}
use Rattle.echo_filed.proofs.Taken.{string_breaks}
use Rattle.echo_filed.proofs.field.read_part.Goals as goal

pub returns-in_err-take_piece-clause-read : goal.returns-in_err-take_piece-clause-read
returns-in_err-take_piece-clause-read g c =
    let so = c.pieces.invariant in
    let p = err_from_is_err_and c.from_residual.result c.from_residual.ensures.1 in
    rw (p.1, p.2) (string_breaks c.args.size c.pieces.string.items _ _ _ _ so.within so.took c.in_err-take_piece.ensures.step)
