use Rattle.std.{proofs.Common.{◌≡◌, ◌++◌, map}, specs.List.All}
use Rattle.echo_net.specs.Worlds.{Fits, made}
use Rattle.echo_net.proofs.happening.export.Given as goal

abbrev pub invariant-packets : goal.invariant-packets
invariant-packets l = record {
  bytes : l.exported.items ≡ l.initial.exported.items ++ map made l.yielded;
  fit : All Fits l.yielded;
}
