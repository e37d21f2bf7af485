use Rattle.std.proofs.{Common.arith, Common.refl, lemmas.Result.err_from_is_err_and}
use Rattle.echo_filed.specs.Fields.{HasLength, itself}
use Rattle.echo_filed.proofs.Taken.{fixed_breaks}
use Rattle.echo_filed.proofs.field.read_date.Goals as goal

pub returns-in_err-read_fixed-clause-read : goal.returns-in_err-read_fixed-clause-read
returns-in_err-read_fixed-clause-read g c =
    let buf = c.read_fixed.new.field in
    let p = err_from_is_err_and c.from_residual.result c.from_residual.ensures.1 in
    rw (p.1, p.2) (fixed_breaks _ (HasLength 20) itself buf buf (omega arith) refl _ _ _ c.in_err-read_fixed.ensures.broken)
