use Rattle.std.proofs.Common.{◌-◌, length}
use Rattle.echo_packet.proofs.Strings.{HasRead}
use Rattle.echo_packet.proofs.field.read_string.Given as goal

abbrev pub invariant-pieces : goal.invariant-pieces
invariant-pieces g l =
    HasRead l.most (g.R.Read.remaining l.initial.reader) (g.R.Read.remaining l.reader) l.string.items (g.R.Source.failures l.initial.reader) (g.R.Source.failures l.reader)

abbrev pub decreases-pieces : goal.decreases-pieces
decreases-pieces g l = l.most - length l.string.items
