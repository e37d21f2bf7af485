use Rattle.std.proofs.{Common.arith, lemmas.Bool.eqb-true, lemmas.Bool.eqb-false, lemmas.Bool.true≢false, lemmas.Bool.true_from_ne_false}
use Rattle.echo_addr.proofs.Outcomes.{refusal_empty, refusal_shape, refusal_digits, outcome_refused, outcome_numbers, parts_test, Capped-from_parts}
use Rattle.echo_addr.proofs.address.judged.Goals as goal

pub returns-then-is_empty : goal.returns-then-is_empty
returns-then-is_empty c = grind (arith, eqb-true, outcome_refused, refusal_empty)

pub returns-in_default : goal.returns-in_default
returns-in_default c = grind (arith, eqb-false, outcome_refused, refusal_shape)

pub returns-in_default-numbers : goal.returns-in_default-numbers
returns-in_default-numbers c = grind (arith, eqb-false, true_from_ne_false, true≢false, parts_test, outcome_refused, refusal_digits)

pub returns : goal.returns
returns c = grind (arith, eqb-false, true_from_ne_false, true≢false, parts_test, outcome_numbers, Capped-from_parts)
