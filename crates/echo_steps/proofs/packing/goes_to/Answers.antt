use Rattle.std.{proofs.Common.{◌≡◌, ◌∙◌, ap, subst, sym}, specs.List.list_any}
use Rattle.echo_links.specs.Links.{same_address}
use Rattle.echo_filed.specs.Sets.{address_set}
use Rattle.echo_steps.proofs.Searches.{searched}
use Rattle.echo_steps.proofs.packing.goes_to.Goals as goal

pub returns : goal.returns
returns c =
    let all = c.as_slice.result.now in
    let a = c.args.address in
    c.is_ok.ensures.value
    ∙ searched all a c.binary_search.result (subst (λ l. address_set l ≡ l) (sym c.as_slice.ensures) c.one.invariant) c.binary_search.ensures.bound c.binary_search.ensures.position
    ∙ ap (list_any (same_address a)) (c.as_slice.ensures ∙ ap (λ r. r.targets) c.one.view_is)
