use Rattle.std.proofs.Common.{◌∙◌, ap, subst}
use Rattle.echo_text.specs.Echo.{EchoText, IsEcho}
use Rattle.echo_filed.proofs.Sendings.{text_ends}
use Rattle.echo_filed.proofs.sending.list_lines.Goals as goal

pub returns : goal.returns
returns c =
    let view = c.echo.view_is in
    text_ends c.args.echo.now c.as_slice-seen.result.now c.as_slice-path.result.now c.in_ok-lines.lines.items c.push_seen.new.text.items c.push_path.new.text.items
    (subst IsEcho view c.echo.invariant) (c.as_slice-seen.ensures ∙ ap (λ (x : EchoText). x.seen) view) (c.as_slice-path.ensures ∙ ap (λ (x : EchoText). x.path) view)
    c.in_ok-lines.ensures.items c.in_ok-push_seen.ensures c.in_ok-push_path.ensures
