use Rattle.std.proofs.Common.{Option, ℕ, sym, subst, ◌∙◌}
use Rattle.echo_links.specs.Links.{same_address}
use Rattle.echo_net.specs.Worlds.{IsFirst}
use Rattle.echo_net.proofs.receivers.Receivers.of.Goals as goal

pub returns : goal.returns
returns g c = λ systems leads.
    let P : Option ℕ → Type 0 = λ o. IsFirst o (λ b. same_address b c.args.to) systems in
    subst P (sym (c.copied.ensures ∙ c.get.ensures.value)) (leads c.args.to)
