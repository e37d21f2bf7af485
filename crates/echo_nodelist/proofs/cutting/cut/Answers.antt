use Rattle.std.proofs.Common.{arith}
use Rattle.echo_nodelist.proofs.Pieces.{after_place, before_place, no_place, place_found}
use Rattle.echo_nodelist.proofs.cutting.cut.Goals as goal

pub returns-in_err-place-clause-none : goal.returns-in_err-place-clause-none
returns-in_err-place-clause-none c = λ n. no_place c.args.byte c.args.text.now c.in_err-place.ensures

pub returns-clause-found : goal.returns-clause-found
returns-clause-found c = grind (arith, place_found)

pub returns-clause-before : goal.returns-clause-before
returns-clause-before c = before_place c.args.byte c.args.text.now c.in_ok-place.place c.in_ok-place.ensures

pub returns-clause-after : goal.returns-clause-after
returns-clause-after c = after_place c.args.byte c.args.text.now c.in_ok-place.place c.in_ok-place.ensures
