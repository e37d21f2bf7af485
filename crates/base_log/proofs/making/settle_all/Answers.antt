use Rattle.std.proofs.Common.{arith}
use Rattle.disk_io.proofs.Moments.{nothing_twice}
use Rattle.base_log.proofs.Quiet.{gone_quiet}
use Rattle.base_log.proofs.making.settle_all.Goals as goal

pub settle_number-requires-clause-gone : goal.settle_number-requires-clause-gone
settle_number-requires-clause-gone g c honest = grind (arith, gone_quiet)

pub numbers-preserved : goal.numbers-preserved
numbers-preserved g c = grind (arith, nothing_twice)
