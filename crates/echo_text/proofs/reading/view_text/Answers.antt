use Rattle.std.proofs.Common.{arith}
use Rattle.echo_text.proofs.{Reread.read_is_echo, SaidAfter.answers_fault, SaidAfter.answers_memory, SaidAfter.front_accepted, SaidAfter.parts_are}
use Rattle.echo_text.proofs.reading.view_text.Goals as goal

pub returns-in_err-front : goal.returns-in_err-front
returns-in_err-front c = answers_fault c.args.text.now c.in_err-front.field-0.0 c.from_residual.result c.from_residual.ensures.1 c.in_err-front.ensures

pub returns-in_err-lists : goal.returns-in_err-lists
returns-in_err-lists c = grind (arith, answers_memory, front_accepted)

pub invariant_of-view : goal.invariant_of-view
invariant_of-view c =
    read_is_echo c.args.text.now _ _ c.requires
    (parts_are c.args.text.now _ _ _ _ _ _ _ c.in_ok-front.ensures c.in_ok-lists.ensures c.new-3.ensures c.new-4.ensures)

pub returns : goal.returns
returns c = parts_are c.args.text.now _ _ _ _ _ _ _ c.in_ok-front.ensures c.in_ok-lists.ensures c.new-3.ensures c.new-4.ensures
