use Rattle.std.proofs.{Common.arith, lemmas.Result.err_from_is_err_and}
use Rattle.echo_filed.specs.Fields.{IsSmall, address_bytes}
use Rattle.echo_filed.proofs.Taken.{address_reads, address_whole, fixed_breaks}
use Rattle.echo_filed.proofs.field.read_address.Goals as goal

pub returns-in_err-read_fixed-clause-read : goal.returns-in_err-read_fixed-clause-read
returns-in_err-read_fixed-clause-read g c =
    let buf = c.read_fixed.new.field in
    let whole = address_whole buf (omega arith) c.read_fixed.ensures.bytes in
    let p = err_from_is_err_and c.from_residual.result c.from_residual.ensures.1 in
    rw (p.1, p.2) (fixed_breaks _ IsSmall address_bytes (_) buf whole.0 whole.1 _ _ _ c.in_err-read_fixed.ensures.broken)

pub returns-clause-read : goal.returns-clause-read
returns-clause-read g c =
    let buf = c.read_fixed.new.field in
    address_reads _ _ buf c.word_of.result c.word_of-2.result c.word_of-3.result (omega arith) c.read_fixed.ensures.bytes c.word_of.ensures c.word_of-2.ensures c.word_of-3.ensures
    c.in_ok-read_fixed.ensures.taken
