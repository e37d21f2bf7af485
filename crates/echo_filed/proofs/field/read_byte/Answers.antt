use Rattle.std.proofs.{Common.arith, Common.get_or, lemmas.Result.err_from_is_err_and}
use Rattle.echo_filed.specs.Fields.{IsByte, one_byte}
use Rattle.echo_filed.proofs.Taken.{fixed_breaks, byte_whole}
use Rattle.echo_filed.proofs.field.read_byte.Goals as goal

pub returns-in_err-read_fixed-clause-read : goal.returns-in_err-read_fixed-clause-read
returns-in_err-read_fixed-clause-read g c =
    let buf = c.read_fixed.new.field in
    let whole = byte_whole buf (omega arith) c.read_fixed.ensures.bytes in
    let p = err_from_is_err_and c.from_residual.result c.from_residual.ensures.1 in
    rw (p.1, p.2) (fixed_breaks _ IsByte one_byte (get_or buf 0 0) buf whole.0 whole.1 _ _ _ c.in_err-read_fixed.ensures.broken)
