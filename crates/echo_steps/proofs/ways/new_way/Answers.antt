use Rattle.std.proofs.Common.{ap, ◌∙◌}
use Rattle.echo_text.specs.Echo.{EchoText}
use Rattle.echo_filed.specs.Filed.{Filed}
use Rattle.model_steps.specs.Scanning.{exported}
use Rattle.echo_steps.specs.Ways.{list_lines}
use Rattle.echo_steps.proofs.SameWay.{way_made}
use Rattle.echo_steps.proofs.ways.new_way.Goals as goal

pub returns-clause-way : goal.returns-clause-way
returns-clause-way c =
    let view = c.message.view_is in
    let echo = ap (λ (m : Filed). m.echo) view in
    let parts = c.echo.view_is ∙ echo in
    way_made c.args.links.now _ c.args.message.now (ap (λ (m : Filed). m.sender) view)
    (c.new.ensures ∙ c.in_ok-from_slice.ensures.items ∙ c.as_slice.ensures ∙ ap (λ (e : EchoText). e.tag) parts)
    (c.new-2.ensures ∙ c.in_ok-from_slice-2.ensures.items ∙ c.as_slice-2.ensures ∙ ap (λ (e : EchoText). e.seen) parts)
    (c.new-3.ensures ∙ c.in_ok-from_slice-3.ensures.items ∙ c.as_slice-3.ensures ∙ ap (λ (e : EchoText). e.path) parts)
    c.requires.some c.requires.receivers
    (c.new-4.ensures ∙ c.in_ok-lines.ensures ∙ ap (λ (e : EchoText). list_lines (exported c.args.links.now e)) echo)
