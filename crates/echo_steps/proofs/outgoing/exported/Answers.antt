use Rattle.std.proofs.Common.{◌≡◌, ℕ, List, IfOk, ap, subst}
use Rattle.echo_filed.specs.Filed.{Filed}
use Rattle.model_steps.specs.Scanning.{copy_to, message_out}
use Rattle.echo_steps.specs.Exports.{nowhere}
use Rattle.echo_steps.proofs.SameWay.{text_made}
use Rattle.echo_steps.proofs.outgoing.exported.Goals as goal

pub packed-requires : goal.packed-requires
packed-requires c =
    text_made c.args.links.now c.message.inside.echo c.args.message.now.echo c.args.lines.now c.in_ok-text.text.items (ap (λ (m : Filed). m.echo) c.message.view_is)
    c.requires c.in_ok-text.ensures

pub returns : goal.returns
unfolding copy_to
returns c =
    let P : List ℕ → Type 0 = λ t. IfOk c.packed.result (λ copy. copy ≡ message_out c.args.links.now nowhere c.args.message.now t) in
    subst P
    (text_made c.args.links.now c.message.inside.echo c.args.message.now.echo c.args.lines.now c.in_ok-text.text.items (ap (λ (m : Filed). m.echo) c.message.view_is)
    c.requires c.in_ok-text.ensures)
    c.packed.ensures
