use Rattle.std.{proofs.Common.{◌≡◌, ◌<◌, ◌∙◌, ℕ, ap, sym, arith, get_or, subst}, specs.Char.digit_value}
use Rattle.echo_text.proofs.{Serials.valued_all, Serials.valued_more, Serials.valued_room, Ids.hex_from_digits as all_hex}
use Rattle.cmd_status.proofs.options.serial_in.Goals as goal

pub overflow_mul-value : goal.overflow_mul-value
overflow_mul-value c =
    let room = valued_room c.args.digits.now c.digits.digit-index c.digits.value c.digits-test.true c.requires c.digits.invariant in
    omega (arith, room)

pub overflow_add-value : goal.overflow_add-value
overflow_add-value c =
    let room = valued_room c.args.digits.now c.digits.digit-index c.digits.value c.digits-test.true c.requires c.digits.invariant in
    let worth = c.in_ok-worth.ensures.value in
    omega (arith, room, worth)

pub digits-preserved : goal.digits-preserved
digits-preserved c =
    let worth = c.in_ok-worth.ensures.value in
    let same : c.from.result ≡ get_or c.args.digits.now c.digits.digit-index 0 = c.from.ensures in
    valued_more c.args.digits.now c.digits.digit-index c.digits.value c.in_ok-worth.worth c.digits-test.true
    (subst (λ (x : ℕ). digit_value x < 16) same worth.0) (worth.1 ∙ ap digit_value same) c.digits.invariant

pub returns : goal.returns
returns c =
    let all = valued_all c.args.digits.now c.digits.digit-index c.digits.value (omega arith) c.digits.invariant in
    (all_hex c.args.digits.now all.0, sym all.1)
