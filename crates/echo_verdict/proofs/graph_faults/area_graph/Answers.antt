use Rattle.std.proofs.Common.{◌∙◌, ℕ, Bool, List, ap}
use Rattle.std.specs.Prelude.{Contains}
use Rattle.echo_addr.specs.declared.address.Address.{Address}
use Rattle.model_graph.specs.Rows.{linked}
use Rattle.echo_verdict.{specs.{Drawn.has_link, Faults.AreInOrder, Nets.link}, proofs.{Collected.{is_graph, same_links}, Owned.in_order_from_sorted, Ties.{held_links, simple_joins}}}
use Rattle.echo_verdict.proofs.graph_faults.area_graph.Goals as goal

pub rows-requires-clause-known : goal.rows-requires-clause-known
rows-requires-clause-known c = c.requires.simple.known

pub new-requires : goal.new-requires
new-requires c =
    let carriers : List Address = c.args.carriers.now in
    let joins : Address → Address → Bool = λ a b. has_link c.args.links.now (link a b) in
    let order : AreInOrder (Contains carriers) carriers = in_order_from_sorted (Contains carriers) carriers c.requires.carriers (λ a. (λ h. h, λ h. h)) in
    is_graph (Contains carriers) joins carriers c.args.links.now c.in_ok-rows.rows.items (held_links c.args.links.now) order
    (simple_joins carriers c.args.links.now c.requires.simple joins (held_links c.args.links.now)) c.in_ok-rows.ensures

pub returns-clause-links : goal.returns-clause-links
returns-clause-links c joins listed =
    let carriers : List Address = c.args.carriers.now in
    let order : AreInOrder (Contains carriers) carriers = in_order_from_sorted (Contains carriers) carriers c.requires.carriers (λ a. (λ h. h, λ h. h)) in
    ap (λ (rows : List (List ℕ)). linked rows) c.new.ensures
    ∙ same_links (Contains carriers) joins carriers c.args.links.now c.in_ok-rows.rows.items listed order (simple_joins carriers c.args.links.now c.requires.simple joins listed) c.in_ok-rows.ensures
