use Rattle.std.{proofs.Common.{◌≡◌, ◌≤◌, length, drop, ap, ◌∙◌, subst, arith}, specs.{Prelude.IfSome, Str.Parse.digits_value}}
use Rattle.echo_nodelist.{specs.CrcLine.last_five, proofs.StatedNumber.five_digits}
use Rattle.echo_nodelist.proofs.stated.stated_number.Goals as goal

pub returns-clause-value : goal.returns-clause-value
returns-clause-value c =
    let at = c.in_ok-at.ensures in
    let digits = c.split_at.result.1.now in
    let last : digits ≡ last_five c.args.line.now = c.split_at.ensures.back ∙ ap (λ k. drop k c.args.line.now) at.1 in
    let short : length digits ≤ 5 = omega (arith, c.split_at.ensures.back_len, at.0, at.1) in
    subst
    (λ ds. IfSome c.number.result (λ n. n ≡ digits_value 10 ds))
    last
    (five_digits c.number.result digits short c.number.ensures.none c.number.ensures.value)
