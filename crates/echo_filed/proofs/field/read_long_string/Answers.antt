use Rattle.std.proofs.{Common.arith, lemmas.Result.err_from_is_err_and}
use Rattle.std.specs.List.{flat_map}
use Rattle.echo_filed.specs.Fields.{itself}
use Rattle.echo_filed.proofs.Taken.{part_breaks}
use Rattle.echo_filed.proofs.field.read_long_string.Goals as goal

pub returns-in_err-part-clause-read : goal.returns-in_err-part-clause-read
returns-in_err-part-clause-read g c =
    let so = c.parts.invariant in
    let whole = so.whole in
    let least = c.min-next.ensures in
    let p = err_from_is_err_and c.from_residual.result c.from_residual.ensures.1 in
    rw (p.1, p.2) (part_breaks c.args.size c.min-next.result (flat_map itself c.parts.parts.items) _ _ _ _ (omega arith) so.took c.in_err-part.ensures.read)
