use Rattle.std.proofs.Common.{◌<◌, ◌^◌, length, subst, ap, arith}
use Rattle.std.proofs.lemmas.Bool.{leb-true}
use Rattle.echo_text.specs.Echo.{EchoText}
use Rattle.echo_filed.specs.Written.{text_of}
use Rattle.echo_filed.proofs.TextLengths.{tag_len, text_len}
use Rattle.echo_filed.proofs.sending.is_little.Goals as goal

pub returns : goal.returns
returns c = λ yes.
    let e : EchoText = record { tag = c.echo.inside.tag; kept = c.echo.inside.kept; seen = c.echo.inside.seen; path = c.echo.inside.path } in
    let kept = ap length c.as_text.ensures.bytes in
    let few = leb-true (length c.as_text.result.now) 1073741824 yes in
    subst (λ (f : EchoText). length (text_of f) < 2 ^ 32) c.echo.view_is
    (omega (arith, text_len e c.echo.invariant, tag_len e.tag c.echo.invariant.tag_bytes, kept, few))
