use Rattle.std.proofs.Common.{arith}
use Rattle.echo_steps.proofs.Exports.{scan_made}
use Rattle.echo_steps.proofs.scanning.scanned.Goals as goal

pub returns-clause-packets : goal.returns-clause-packets
returns-clause-packets g c = λ honest base kept. grind (arith, scan_made)
