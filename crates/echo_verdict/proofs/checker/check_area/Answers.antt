use Rattle.std.proofs.{Common.{◌↔◌, ◌∙◌, Bool, Contains, IsTrue, List, ap, sym, subst, arith}, lemmas.{List.Elements.All-contains, Option.MatchOption-at_some}}
use Rattle.echo_links.specs.Links.{IsFile}
use Rattle.model_graph.proofs.Members.{Contains-from_Among}
use Rattle.echo_addr.specs.declared.address.Address.{Address}
use Rattle.model_run.specs.Tidy.{Carries, Tidy, lists}
use Rattle.echo_verdict.{specs.{declared.link.Link.Link, Faults.{AreInOrder, AreSoundLinks, IsFirstFault, numbered}, Joining.AreSimple}, proofs.{Collected.{at_none, not_tidy}, Owned.in_order_from_sorted, Ties.simple_where_sound}}
use Rattle.echo_verdict.proofs.checker.check_area.Goals as goal

pub returns-in-Some-clause-tidy : goal.returns-in-Some-clause-tidy
returns-in-Some-clause-tidy c = grind (arith, not_tidy, MatchOption-at_some)

pub area_graph-requires-clause-simple : goal.area_graph-requires-clause-simple
area_graph-requires-clause-simple c =
    let sound = at_none (AreSoundLinks c.args.files.now c.args.tag.now) (IsFirstFault c.args.files.now c.args.tag.now) c.in_ok-wrong_link.wrong_link c.in_default.not-Some c.in_ok-wrong_link.ensures in
    let carriers : List Address = c.in_ok-area.area.carriers.items in
    let simple = simple_where_sound c.args.files.now c.args.tag.now carriers c.in_ok-area.area.links.items c.in_ok-area.ensures.members c.in_ok-area.ensures.listed sound in
    subst (λ (cs : List Address). AreSimple cs c.deref-4.result.now) (sym c.deref-3.ensures.value) (subst (λ (ls : List Link). AreSimple carriers ls) (sym c.deref-4.ensures.value) simple)

pub graph_fault-requires-clause-in_order : goal.graph_fault-requires-clause-in_order
graph_fault-requires-clause-in_order c =
    let order = in_order_from_sorted (Carries c.args.files.now c.args.tag.now) c.in_ok-area.area.carriers.items c.in_ok-area.ensures.carriers c.in_ok-area.ensures.members in
    subst (AreInOrder (Carries c.args.files.now c.args.tag.now)) (sym c.deref-5.ensures.value) order

pub graph_fault-requires-clause-links : goal.graph_fault-requires-clause-links
graph_fault-requires-clause-links c =
    let joins = lists c.args.files.now c.args.tag.now in
    c.in_ok-graph.ensures.links joins (subst (λ (ls : List Link). (l : Link) → Contains ls l ↔ IsTrue (joins l.from l.to)) (sym c.deref-4.ensures.value) c.in_ok-area.ensures.listed)
    ∙ ap (λ (cs : List Address). numbered cs joins) (c.deref-3.ensures.value ∙ sym c.deref-5.ensures.value)

pub returns-in-Some-wrong_graph-clause-tidy : goal.returns-in-Some-wrong_graph-clause-tidy
returns-in-Some-wrong_graph-clause-tidy = grind (arith, not_tidy, MatchOption-at_some)

pub returns-clause-orderly : goal.returns-clause-orderly
returns-clause-orderly c = grind (arith, at_none)

pub returns-clause-headline : goal.returns-clause-headline
returns-clause-headline c all events =
    let tidy : Tidy c.args.files.now c.args.tag.now = grind (arith, at_none) in
    c.every_run_of_a_tidy_area_is_orderly.ensures c.args.files.now c.args.tag.now tidy
    (λ file there. All-contains IsFile c.args.files.now file c.in_ok-area.ensures.fit (Contains-from_Among file c.args.files.now there)) events
