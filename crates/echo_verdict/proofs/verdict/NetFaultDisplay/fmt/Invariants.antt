use Rattle.std.{proofs.Common.take, specs.{List.flat_map, Fmt.{HasWritten, IsPlainFormatter}}}
use Rattle.echo_verdict.specs.Printed.{after_blank}
use Rattle.echo_verdict.proofs.verdict.NetFaultDisplay.fmt.Given as goal

abbrev pub invariant-round : goal.invariant-round
invariant-round g l =
    IsPlainFormatter l.initial.f → HasWritten g.W.Write.write_str_gives l.initial.f (flat_map after_blank (take l.system-index l.system-items)) l.f
