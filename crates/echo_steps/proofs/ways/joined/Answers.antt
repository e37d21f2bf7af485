use Rattle.std.proofs.{Common.{◌≡◌, ◌∷◌, [], ◌++◌, List, map, take, ap, ◌∙◌}, lemmas.List.take_all}
use Rattle.echo_addr.specs.{declared.address.Address.Address, declared.address.NetNode.NetNode, Address.net_node_of}
use Rattle.echo_filed.specs.Sets.{entry_set}
use Rattle.echo_steps.proofs.AscendingSets.{entries_twice}
use Rattle.echo_steps.proofs.ways.joined.Goals as goal

pub returns : goal.returns
returns c =
    let seen : List NetNode = c.args.seen.now in
    let links : List Address = c.args.links.now in
    let begun : c.push.new.self.items ≡ c.args.own ∷ [] =
    c.in_ok-push.ensures.items ∙ ap (λ (t : List NetNode). t ++ c.args.own ∷ []) c.in_ok-added.ensures.items in
    let added : c.links.added.items ≡ c.args.own ∷ map net_node_of links =
    c.links.invariant ∙ ap (λ (t : List NetNode). t ++ map net_node_of (take c.links.link-index links)) begun
    ∙ ap (λ (l : List Address). c.args.own ∷ map net_node_of l) (take_all c.links.link-index links c.links-test.false) in
    c.new.ensures ∙ c.in_ok-set.ensures ∙ ap (λ (t : List NetNode). entry_set (seen ++ t)) (c.deref.ensures.value ∙ c.entry_set.ensures)
    ∙ entries_twice seen c.links.added.items ∙ ap (λ (t : List NetNode). entry_set (seen ++ t)) added
