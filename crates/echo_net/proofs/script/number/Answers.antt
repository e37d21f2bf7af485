use Rattle.std.proofs.Common.{arith, sym}
use Rattle.echo_net.proofs.Numbers.{digested_all, next_digit, next_fits, no_digit}
use Rattle.echo_net.proofs.script.number.Goals as goal

pub returns-in_err-digit : goal.returns-in_err-digit
returns-in_err-digit c = grind (arith, no_digit)

pub overflow_mul-value : goal.overflow_mul-value
overflow_mul-value c =
    let small = next_fits c.args.radix c.args.digits.now c.loop-byte.byte-index c.loop-byte.value c.from.result c.in_ok-digit.digit c.requires.least c.requires.room
    c.loop-byte-test.true c.from.ensures c.in_ok-digit.ensures.value.0 c.in_ok-digit.ensures.value.1 c.loop-byte.invariant in
    omega (arith, small)

pub overflow_add-value : goal.overflow_add-value
overflow_add-value c = grind (arith, next_fits)

pub loop-byte-preserved : goal.loop-byte-preserved
loop-byte-preserved c =
    next_digit c.args.radix c.args.digits.now c.loop-byte.byte-index c.loop-byte.value c.from.result c.in_ok-digit.digit
    c.loop-byte-test.true c.from.ensures c.in_ok-digit.ensures.value.0 c.in_ok-digit.ensures.value.1 c.loop-byte.invariant

pub returns : goal.returns
returns c =
    sym (digested_all c.args.radix c.args.digits.now c.loop-byte.byte-index c.loop-byte.value (omega (arith, c.loop-byte-test.false)) c.loop-byte.invariant)
