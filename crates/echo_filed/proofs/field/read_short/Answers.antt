use Rattle.std.proofs.lemmas.Result.{err_from_is_err_and}
use Rattle.echo_filed.specs.{Stored.after_length, Fields.IsByte, Fields.IsShortString, Fields.one_byte}
use Rattle.echo_filed.proofs.{Layouts.ends_length, Taken.breaks_as, Taken.counted_reads}
use Rattle.echo_filed.proofs.field.read_short.Goals as goal

pub returns-in_err-size-clause-read : goal.returns-in_err-size-clause-read
returns-in_err-size-clause-read g c =
    let p = err_from_is_err_and c.from_residual.result c.from_residual.ensures.1 in
    rw (p.1, p.2) (breaks_as {F = IsByte} {w = one_byte} {G = IsShortString} {v = after_length} _ _ _ (ends_length IsByte one_byte) c.in_err-size.ensures.read)

pub returns-clause-read : goal.returns-clause-read
returns-clause-read g c =
    let size = c.in_ok-size.ensures.read in
    counted_reads IsByte one_byte c.in_ok-size.size _ _ _ c.read_string.result size.0 size.1 c.read_string.ensures.read
