use Rattle.std.{proofs.Common.{◌↔◌, ℕ, subst, sym, List, map}, specs.{Prelude.Contains, List.Sorted.IsStrictlySortedBy}}
use Rattle.echo_verdict.specs.{declared.link.Link.Link, declared.same_net_node.Neighbour.Neighbour, Pairs.IsTwin, Pairs.neighbour_of}
use Rattle.echo_verdict.proofs.{Orders.neighbour_order, Twins.has_places, Twins.is_twin}
use Rattle.echo_verdict.proofs.same_net_node.all_same_net_node.Goals as goal

pub all_twins-requires : goal.all_twins-requires
all_twins-requires c = subst (IsStrictlySortedBy neighbour_order) (sym c.deref.ensures.value) c.put_in_order.ensures.ascending

pub returns-clause-members : goal.returns-clause-members
returns-clause-members c = λ l.
    let neighbours : List Neighbour = c.put_in_order.new.values.items in
    let found : (m : Link) → Contains c.in_ok-all.all.items m ↔ ((i : ℕ) × (j : ℕ) × IsTwin neighbours i j m) =
    subst (λ (ns : List Neighbour). (m : Link) → Contains c.in_ok-all.all.items m ↔ ((i : ℕ) × (j : ℕ) × IsTwin ns i j m)) c.deref.ensures.value c.in_ok-all.ensures in
    let all : (n : Neighbour) → Contains neighbours n ↔ Contains (map neighbour_of c.args.systems.now) n =
    subst (λ (ns : List Neighbour). (n : Neighbour) → Contains neighbours n ↔ Contains ns n) c.in_ok-neighbours.ensures c.put_in_order.ensures.members in
    let up = c.put_in_order.ensures.ascending in (
      λ h. (let (i, j, twin) = (found l).0 ((c.put_in_order-2.ensures.members l).0 h) in is_twin c.args.systems.now neighbours up all i j l twin),
      λ h. (c.put_in_order-2.ensures.members l).1 ((found l).1 (has_places c.args.systems.now neighbours up all l h)),
    )
