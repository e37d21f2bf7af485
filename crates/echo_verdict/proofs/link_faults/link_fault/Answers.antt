use Rattle.std.{proofs.{Common.{subst, MatchOption, Option}, lemmas.Option.MatchOption-at_some}, specs.Prelude.Contains}
use Rattle.echo_addr.specs.declared.address.Address.{Address}
use Rattle.model_graph.specs.Walk.{Different}
use Rattle.echo_verdict.specs.{declared.link.Link.Link, Firsts.HasTwin, Firsts.IsSmallest, Firsts.IsSmallestPair, Firsts.OccursTwice}
use Rattle.echo_verdict.specs.Nets as net
use Rattle.echo_verdict.proofs.Collected.{all_answered, all_known, at_none, is_carried, lists_itself, net_nodes_differ, none_lists_itself, not_carried, one_sided, same_net_node, unknown}
use Rattle.echo_verdict.proofs.link_faults.link_fault.Goals as goal

pub returns-then-is_empty : goal.returns-then-is_empty
returns-then-is_empty c =
    not_carried c.args.files.now c.args.tag.now c.args.carriers.now c.args.links.now c.requires.members c.requires.listed c.is_empty.result c.is_empty.ensures c.if-is_empty.true

pub returns-in-Some : goal.returns-in-Some
returns-in-Some c =
    let some = is_carried c.args.files.now c.args.tag.now c.args.carriers.now c.args.links.now c.requires.members c.requires.listed c.is_empty.result c.is_empty.ensures c.if-is_empty.false in
    (some, MatchOption-at_some _ _ c.in-Some.system c.in-Some.is c.requires.shared)

pub returns-in-Some-self_link : goal.returns-in-Some-self_link
returns-in-Some-self_link c =
    let some = is_carried c.args.files.now c.args.tag.now c.args.carriers.now c.args.links.now c.requires.members c.requires.listed c.is_empty.result c.is_empty.ensures c.if-is_empty.false in
    let one_file = at_none (Different (net.systems c.args.files.now)) (IsSmallest (OccursTwice (net.systems c.args.files.now))) c.args.shared c.in_default.not-Some c.requires.shared in
    (some, one_file, lists_itself c.args.files.now c.args.tag.now c.args.carriers.now c.args.links.now c.requires.members c.requires.listed c.in-Some-self_link.link c.in-Some-self_link.ensures)

pub returns-in-Some-unknown_link : goal.returns-in-Some-unknown_link
returns-in-Some-unknown_link c =
    let some = is_carried c.args.files.now c.args.tag.now c.args.carriers.now c.args.links.now c.requires.members c.requires.listed c.is_empty.result c.is_empty.ensures c.if-is_empty.false in
    let one_file = at_none (Different (net.systems c.args.files.now)) (IsSmallest (OccursTwice (net.systems c.args.files.now))) c.args.shared c.in_default.not-Some c.requires.shared in
    (some, one_file, none_lists_itself c.args.files.now c.args.tag.now c.args.carriers.now c.args.links.now c.requires.members c.requires.listed c.in_default-self_link.ensures, unknown c.args.files.now c.args.tag.now c.args.carriers.now c.args.links.now c.requires.members c.requires.listed c.in-Some-unknown_link.link c.in-Some-unknown_link.ensures)

pub returns-in-Some-one_sided : goal.returns-in-Some-one_sided
returns-in-Some-one_sided c =
    let some = is_carried c.args.files.now c.args.tag.now c.args.carriers.now c.args.links.now c.requires.members c.requires.listed c.is_empty.result c.is_empty.ensures c.if-is_empty.false in
    let one_file = at_none (Different (net.systems c.args.files.now)) (IsSmallest (OccursTwice (net.systems c.args.files.now))) c.args.shared c.in_default.not-Some c.requires.shared in
    (some, one_file, none_lists_itself c.args.files.now c.args.tag.now c.args.carriers.now c.args.links.now c.requires.members c.requires.listed c.in_default-self_link.ensures, all_known c.args.files.now c.args.tag.now c.args.carriers.now c.args.links.now c.requires.members c.requires.listed c.in_default-unknown_link.ensures, one_sided c.args.files.now c.args.tag.now c.args.carriers.now c.args.links.now c.requires.members c.requires.listed c.in-Some-one_sided.link (MatchOption-at_some _ _ c.in-Some-one_sided.link c.in-Some-one_sided.is c.in_ok-one_sided.ensures))

pub returns-in-Some-twins : goal.returns-in-Some-twins
returns-in-Some-twins c =
    let some = is_carried c.args.files.now c.args.tag.now c.args.carriers.now c.args.links.now c.requires.members c.requires.listed c.is_empty.result c.is_empty.ensures c.if-is_empty.false in
    let one_file = at_none (Different (net.systems c.args.files.now)) (IsSmallest (OccursTwice (net.systems c.args.files.now))) c.args.shared c.in_default.not-Some c.requires.shared in
    let twins = MatchOption-at_some ((a b : Address) → ¬ HasTwin (Contains c.args.carriers.now) a b) (λ (pair : Link). IsSmallestPair (HasTwin (Contains c.args.carriers.now)) pair.from pair.to)
    c.in-Some-twins.pair c.in-Some-twins.is c.in_ok-twins.ensures in
    (some, one_file, none_lists_itself c.args.files.now c.args.tag.now c.args.carriers.now c.args.links.now c.requires.members c.requires.listed c.in_default-self_link.ensures, all_known c.args.files.now c.args.tag.now c.args.carriers.now c.args.links.now c.requires.members c.requires.listed c.in_default-unknown_link.ensures, all_answered c.args.files.now c.args.tag.now c.args.carriers.now c.args.links.now c.requires.members c.requires.listed (at_none _ _ _ c.in_default-one_sided.not-Some c.in_ok-one_sided.ensures), same_net_node c.args.files.now c.args.tag.now c.args.carriers.now c.args.links.now c.requires.members c.requires.listed c.in-Some-twins.pair.from c.in-Some-twins.pair.to twins)

pub returns-in-None : goal.returns-in-None
returns-in-None c =
    let some = is_carried c.args.files.now c.args.tag.now c.args.carriers.now c.args.links.now c.requires.members c.requires.listed c.is_empty.result c.is_empty.ensures c.if-is_empty.false in
    let one_file = at_none (Different (net.systems c.args.files.now)) (IsSmallest (OccursTwice (net.systems c.args.files.now))) c.args.shared c.in_default.not-Some c.requires.shared in
    let none = subst (λ (found : Option Link). MatchOption found ((a b : Address) → ¬ HasTwin (Contains c.args.carriers.now) a b) (λ (pair : Link). IsSmallestPair (HasTwin (Contains c.args.carriers.now)) pair.from pair.to))
    c.in-None.is c.in_ok-twins.ensures in
    record {
      some = some;
      one_file = one_file;
      no_self = none_lists_itself c.args.files.now c.args.tag.now c.args.carriers.now c.args.links.now c.requires.members c.requires.listed c.in_default-self_link.ensures;
      known = all_known c.args.files.now c.args.tag.now c.args.carriers.now c.args.links.now c.requires.members c.requires.listed c.in_default-unknown_link.ensures;
      both = all_answered c.args.files.now c.args.tag.now c.args.carriers.now c.args.links.now c.requires.members c.requires.listed (at_none _ _ _ c.in_default-one_sided.not-Some c.in_ok-one_sided.ensures);
      apart = net_nodes_differ c.args.files.now c.args.tag.now c.args.carriers.now c.args.links.now c.requires.members c.requires.listed none;
    }
