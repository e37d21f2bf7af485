use Rattle.std.{proofs.Common.{◌+◌, ◌↔◌, ◌∙◌, ℕ, ap, subst, List, map}, specs.Prelude.{Contains, slice_get}}
use Rattle.echo_verdict.{specs.{declared.{link.Link.Link, same_net_node.Neighbour.Neighbour}, Pairs.{IsTwin, neighbour_of}}, proofs.Twins.twins_answer}
use Rattle.echo_verdict.proofs.same_net_node.same_net_node.Goals as goal

pub returns : goal.returns
returns c =
    let neighbours : List Neighbour = c.put_in_order.new.values.items in
    let twins : List Link = c.put_in_order-2.new.values.items in
    let found : (l : Link) → Contains c.in_ok-twins.twins.items l ↔ ((k : ℕ) × IsTwin neighbours k (k + 1) l) =
    subst (λ (ns : List Neighbour). (l : Link) → Contains c.in_ok-twins.twins.items l ↔ ((k : ℕ) × IsTwin ns k (k + 1) l)) c.deref.ensures.value c.in_ok-twins.ensures in
    let all : (n : Neighbour) → Contains neighbours n ↔ Contains (map neighbour_of c.args.systems.now) n =
    subst (λ (ns : List Neighbour). (n : Neighbour) → Contains neighbours n ↔ Contains ns n) c.in_ok-neighbours.ensures c.put_in_order.ensures.members in
    twins_answer c.args.systems.now neighbours c.put_in_order.ensures.ascending all twins c.put_in_order-2.ensures.ascending
    (λ l. (λ h. (found l).0 ((c.put_in_order-2.ensures.members l).0 h), λ h. (c.put_in_order-2.ensures.members l).1 ((found l).1 h)))
    c.copied.result (c.copied.ensures ∙ (c.first.ensures.value ∙ ap (λ (ls : List Link). slice_get ls 0) c.deref-2.ensures.value))
