use Rattle.std.proofs.Common.{arith}
use Rattle.model_steps.proofs.Encoding.{length-message_bytes}
use Rattle.model_steps.proofs.packet.message_size.Goals as goal

pub returns : goal.returns
returns c = grind (arith, length-message_bytes)
