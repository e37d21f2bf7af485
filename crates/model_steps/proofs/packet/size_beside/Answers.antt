use Rattle.std.proofs.Common.{arith}
use Rattle.model_steps.proofs.Encoding.{header_size}
use Rattle.model_steps.proofs.packet.size_beside.Goals as goal

pub returns : goal.returns
returns c = grind (arith, header_size)
