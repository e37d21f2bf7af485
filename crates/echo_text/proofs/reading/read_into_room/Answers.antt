use Rattle.std.proofs.Common.{arith}
use Rattle.echo_text.proofs.SaidAfter.{answers_fault, answers_memory, front_accepted}
use Rattle.echo_text.proofs.reading.read_into_room.Goals as goal

pub returns-in_err-front : goal.returns-in_err-front
returns-in_err-front c = answers_fault c.args.text.now c.in_err-front.field-0.0 c.from_residual.result c.from_residual.ensures.1 c.in_err-front.ensures

pub returns-in_err-read : goal.returns-in_err-read
returns-in_err-read c = grind (arith, answers_memory, front_accepted)
