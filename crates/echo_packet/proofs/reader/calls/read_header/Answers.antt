use Rattle.std.proofs.Common.{◌∙◌, sym, subst, arith}
use Rattle.echo_packet.specs.Header.{IsHeader}
use Rattle.echo_packet.proofs.{Headers.IsHeader-header_of, Fronts.front-taken}
use Rattle.echo_packet.proofs.reader.calls.read_header.Goals as goal

pub returns-clause-header : goal.returns-clause-header
returns-clause-header g c = subst IsHeader (sym c.header_of.ensures) (IsHeader-header_of c.read_fixed.new.field c.read_fixed.ensures.bytes (omega arith))

pub returns-clause-taken : goal.returns-clause-taken
returns-clause-taken g c = rw c.header_of.ensures (front-taken _ _ c.read_fixed.new.field c.read_fixed.ensures.bytes (omega arith)
    (sym c.number_at-kind.ensures ∙ c.if-kind-ne2.false) c.in_default.ensures.taken)
