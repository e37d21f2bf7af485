use Rattle.std.proofs.Common.{◌≢◌, length, get_or, sym, ◌∙◌, arith}
use Rattle.std.proofs.lemmas.Bool.{both_ways, eqb-false, true≢false}
use Rattle.echo_addr.proofs.CappedNumbers.{Digested-more, Digested-all, no_number}
use Rattle.echo_addr.proofs.digits.number.Goals as goal

pub returns-then-not-is_ascii_digit-clause-none : goal.returns-then-not-is_ascii_digit-clause-none
returns-then-not-is_ascii_digit-clause-none c = grind (arith, no_number)

pub loop-byte-preserved : goal.loop-byte-preserved
loop-byte-preserved c = grind (arith, Digested-more, get_or)

pub returns-clause-none : goal.returns-clause-none
returns-clause-none c =
    let more : length c.args.digits.now ≢ 0 = eqb-false _ _ (sym c.is_empty.ensures ∙ c.if-is_empty.false) in
    let all = Digested-all c.args.cap c.args.digits.now c.loop-byte.byte-index c.loop-byte.value (omega arith) (omega arith) c.loop-byte.invariant in
    (λ e. absurd (true≢false e), λ e. absurd (both_ways _ e all.0))
