use Rattle.std.proofs.Common.{◌≡◌, ◌∙◌, ◌-◌, ap, arith, drop, length, sym, take}
use Rattle.echo_text.proofs.Ids.{quoted_origin}
use Rattle.echo_text.proofs.msgid.spelled_origin.Goals as goal

pub returns-then-is_quoted : goal.returns-then-is_quoted
returns-then-is_quoted c =
    let s = c.args.spelled.now in
    quoted_origin s (take (length s - 1 - 1) (drop 1 s)) (sym c.is_quoted.ensures.value ∙ c.if-is_quoted.true)
    (let two : length s - 1 - 1 ≡ length s - 2 = omega arith in ap (λ n. take n (drop 1 s)) two)
