use Rattle.std.proofs.Common.{◌≡◌, ◌<◌, ◌∙◌, ℕ, ap, arith, get_or, subst}
use Rattle.std.specs.Char.{digit_value}
use Rattle.echo_text.proofs.Serials.{valued_more, valued_room}
use Rattle.echo_text.proofs.msgid.parse_hex.Goals as goal

pub overflow_mul-value : goal.overflow_mul-value
overflow_mul-value c = grind (arith, valued_room)

pub overflow_add-value : goal.overflow_add-value
overflow_add-value c = grind (arith, valued_room)

pub digits-preserved : goal.digits-preserved
digits-preserved c =
    let worth = c.in_ok-worth.ensures.value in
    let same : c.from.result ≡ get_or c.args.digits.now c.digits.digit-index 0 = c.from.ensures in
    valued_more c.args.digits.now c.digits.digit-index c.digits.value c.in_ok-worth.worth c.digits-test.true
    (subst (λ (x : ℕ). digit_value x < 16) same worth.0) (worth.1 ∙ ap digit_value same) c.digits.invariant
