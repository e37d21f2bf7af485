use Rattle.std.proofs.Common.{append-nil, arith}
use Rattle.echo_verdict.proofs.each_fault.push_no_such_area.Goals as goal

pub returns-then-not-is_empty : goal.returns-then-not-is_empty
returns-then-not-is_empty c = grind (arith, append-nil)

pub returns : goal.returns
returns c = grind arith
