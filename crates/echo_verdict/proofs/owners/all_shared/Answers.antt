use Rattle.std.{proofs.Common.{◌+◌, ◌↔◌, ℕ, subst, List}, specs.Prelude.Contains}
use Rattle.model_graph.specs.Walk.{IsAt}
use Rattle.echo_verdict.{specs.{declared.{link.Link.Link, owners.Owner.Owner}, Pairs.IsShared}, proofs.Owned.{shared_from, shared_to}}
use Rattle.echo_verdict.proofs.owners.all_shared.Goals as goal

pub returns-clause-members : goal.returns-clause-members
returns-clause-members c = λ l.
    let owners : List Owner = c.put_in_order.new.values.items in
    let found : (m : Link) → Contains c.in_ok-shared.shared.items m ↔ ((k : ℕ) × IsShared owners k (k + 1) m) =
    subst (λ (os : List Owner). (m : Link) → Contains c.in_ok-shared.shared.items m ↔ ((k : ℕ) × IsShared os k (k + 1) m)) c.deref.ensures.value c.in_ok-shared.ensures in
    let all : (o : Owner) → Contains owners o ↔ IsAt c.args.systems.now o.file o.system = λ o. (λ h. (c.in_ok-owners.ensures o).0 ((c.put_in_order.ensures.members o).0 h), λ h. (c.put_in_order.ensures.members o).1 ((c.in_ok-owners.ensures o).1 h)) in
    let up = c.put_in_order.ensures.ascending in (
      λ h. (let (k, one) = (found l).0 ((c.put_in_order-2.ensures.members l).0 h) in shared_from c.args.systems.now owners all up k l one),
      λ h. (c.put_in_order-2.ensures.members l).1 ((found l).1 (shared_to c.args.systems.now owners all up l h)),
    )
