use Rattle.std.{proofs.Common.{ap, ◌∙◌, List}, specs.Prelude.slice_get}
use Rattle.echo_verdict.{specs.declared.link.Link.Link, proofs.Owned.{first_shared, none_shared}}
use Rattle.echo_verdict.proofs.owners.shared_address.Goals as goal

pub returns-in-Some : goal.returns-in-Some
returns-in-Some c =
    let is = c.in-Some.ensures ∙ (c.first.ensures.value ∙ ap (λ (ls : List Link). slice_get ls 0) c.deref.ensures.value) in
    first_shared c.args.systems.now c.in_ok-shared.shared.items c.in_ok-shared.ensures.ascending c.in_ok-shared.ensures.members c.in-Some.link is

pub returns : goal.returns
returns c =
    let is = c.in-None.ensures ∙ (c.first.ensures.value ∙ ap (λ (ls : List Link). slice_get ls 0) c.deref.ensures.value) in
    none_shared c.args.systems.now c.in_ok-shared.shared.items c.in_ok-shared.ensures.members is
