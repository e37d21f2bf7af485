use Rattle.std.proofs.{Common.{◌≡◌, ◌<◌, ◌++◌, ◌↔◌, ◌∙◌, ℕ, Bool, IsTrue, List, Contains, ap, drop, get_or, length, map, refl, sym, subst}, lemmas.{List.Elements.Contains-get_or, Result.on_ok_weaker}}
use Rattle.echo_addr.specs.declared.address.Address.{Address}
use Rattle.model_graph.specs.{Parts.AreFirstMembers, Rows.linked}
use Rattle.model_run.specs.Tidy.{Carries}
use Rattle.echo_verdict.specs.{declared.link.Link.Link, AllFaults.apart_from, Faults.{AreInOrder, numbered}, Joining.{AreSimple, tied}, Rows.system_at}
use Rattle.echo_verdict.proofs.{Divided.parts_by_ties, Owned.in_order_from_sorted, Ties.{are_ties, ties_simple}}
use Rattle.echo_verdict.proofs.graph_faults.push_apart.Goals as goal

pub area_graph-requires-clause-simple : goal.area_graph-requires-clause-simple
area_graph-requires-clause-simple c =
    subst (λ (ls : List Link). AreSimple c.args.carriers.now ls) (sym c.deref.ensures.value)
    (ties_simple c.args.files.now c.args.tag.now c.args.carriers.now c.args.links.now c.requires.members c.requires.listed c.in_ok-ties.ties.items c.in_ok-ties.ensures.members)

pub systems_at-requires : goal.systems_at-requires
systems_at-requires c k d inside =
    let firsts : List ℕ = c.deref-2.result.now in
    let are = subst (λ (fs : List ℕ). AreFirstMembers (linked c.in_ok-graph.graph) (length c.in_ok-graph.graph) fs) (sym c.deref-2.ensures.value) c.in_ok-firsts.ensures in
    subst (λ (n : ℕ). get_or firsts k d < n) c.in_ok-graph.ensures.members (are.within (get_or firsts k d) (Contains-get_or firsts k d inside))

pub returns : goal.returns
returns c =
    let carriers : List Address = c.args.carriers.now in
    let ties : Address → Address → Bool = tied c.args.files.now c.args.tag.now in
    let firsts : List ℕ = c.in_ok-firsts.firsts.items in
    let order : AreInOrder (Carries c.args.files.now c.args.tag.now) carriers = in_order_from_sorted (Carries c.args.files.now c.args.tag.now) carriers c.requires.carriers c.requires.members in
    let same = are_ties c.args.files.now c.args.tag.now carriers c.args.links.now c.requires.members c.requires.listed in
    let listed : (l : Link) → Contains c.in_ok-ties.ties.items l ↔ IsTrue (ties l.from l.to) = λ l. (
      λ h. (same l).0 ((c.in_ok-ties.ensures.members l).0 h),
      λ h. (c.in_ok-ties.ensures.members l).1 ((same l).1 h),
    ) in
    let by_ties = c.in_ok-graph.ensures.links ties (subst (λ (ls : List Link). (l : Link) → Contains ls l ↔ IsTrue (ties l.from l.to)) (sym c.deref.ensures.value) listed) in
    let are : AreFirstMembers (numbered carriers ties) (length carriers) firsts =
    subst (λ (n : ℕ). AreFirstMembers (numbered carriers ties) n firsts) c.in_ok-graph.ensures.members
    (subst (λ (links : ℕ → ℕ → Bool). AreFirstMembers links (length c.in_ok-graph.graph) firsts) by_ties c.in_ok-firsts.ensures) in
    let parts : List Address = map (system_at carriers) firsts in
    let parts_are : c.deref-3.result.now ≡ parts = c.deref-3.ensures.value ∙ (c.in_ok-parts.ensures ∙ ap (map (system_at carriers)) c.deref-2.ensures.value) in
    on_ok_weaker c.push_others.result
    (λ whole. (
      map (apart_from (system_at parts 0)) (drop 1 parts),
      (system_at parts 0, drop 1 parts, refl, parts_by_ties c.args.files.now c.args.tag.now carriers order firsts are),
      whole ∙ ap (λ (ps : List Address). c.args.all.now.items ++ map (apart_from (system_at ps 0)) (drop 1 ps)) parts_are,
    ))
    c.push_others.ensures
