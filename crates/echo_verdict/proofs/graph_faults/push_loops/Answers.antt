use Rattle.std.proofs.{Common.{◌≡◌, ◌++◌, ◌<◌, ◌↔◌, ◌∙◌, [], ℕ, Bool, IsTrue, List, Contains, ap, filter, length, map, sym, subst}, lemmas.Result.on_ok_weaker}
use Rattle.std.specs.List.{All, Sorted.IsStrictlySortedBy}
use Rattle.echo_addr.specs.declared.address.Address.{Address}
use Rattle.model_graph.specs.{declared.polygons.Loop.Loop, Cycle.Polygons, Loops.IsIncompleteCycle, Rows.linked}
use Rattle.model_run.specs.Tidy.{Carries}
use Rattle.echo_verdict.specs.{declared.link.Link.Link, AllFaults.loop_at, Faults.{AreInOrder, numbered}, Joining.{AreSimple, fully_linked, is_full}}
use Rattle.echo_verdict.proofs.{Divided.{loops_by_full, loops_within}, Orders.link_order, Owned.in_order_from_sorted, Ties.{are_full, full_simple, full_sorted}}
use Rattle.echo_verdict.proofs.graph_faults.push_loops.Goals as goal

pub area_graph-requires-clause-links : goal.area_graph-requires-clause-links
area_graph-requires-clause-links c =
    subst (λ (ls : List Link). IsStrictlySortedBy link_order ls) (sym (c.deref.ensures.value ∙ c.in_ok-full.ensures))
    (full_sorted c.args.files.now c.args.tag.now c.args.carriers.now c.args.links.now c.requires.members c.requires.listed c.requires.links)

pub area_graph-requires-clause-simple : goal.area_graph-requires-clause-simple
area_graph-requires-clause-simple c =
    subst (λ (ls : List Link). AreSimple c.args.carriers.now ls) (sym (c.deref.ensures.value ∙ c.in_ok-full.ensures))
    (full_simple c.args.files.now c.args.tag.now c.args.carriers.now c.args.links.now c.requires.members c.requires.listed)

pub push_rounds-requires : goal.push_rounds-requires
push_rounds-requires c =
    let files = c.args.files.now in
    let tag : List ℕ = c.args.tag.now in
    let carriers : List Address = c.args.carriers.now in
    let full : Address → Address → Bool = fully_linked files tag in
    let order : AreInOrder (Carries files tag) carriers = in_order_from_sorted (Carries files tag) carriers c.requires.carriers c.requires.members in
    let listed = are_full files tag carriers c.args.links.now c.requires.members c.requires.listed in
    let by_full = c.in_ok-graph.ensures.links full (subst (λ (ls : List Link). (l : Link) → Contains ls l ↔ IsTrue (full l.from l.to)) (sym (c.deref.ensures.value ∙ c.in_ok-full.ensures)) listed) in
    let sound = subst (λ (links : ℕ → ℕ → Bool). All (λ (found : Loop). IsIncompleteCycle links found.round.items) c.in_ok-loops.loops.items) by_full c.in_ok-loops.ensures.sound in
    subst (λ (ls : List Loop). All (λ (found : Loop). All (λ place. place < length carriers) found.round.items) ls) (sym c.deref-2.ensures.value)
    (loops_within files tag carriers order c.in_ok-loops.loops.items sound)

pub returns : goal.returns
returns c =
    let files = c.args.files.now in
    let tag : List ℕ = c.args.tag.now in
    let carriers : List Address = c.args.carriers.now in
    let loops : List Loop = c.in_ok-loops.loops.items in
    let full : Address → Address → Bool = fully_linked files tag in
    let order : AreInOrder (Carries files tag) carriers = in_order_from_sorted (Carries files tag) carriers c.requires.carriers c.requires.members in
    let listed = are_full files tag carriers c.args.links.now c.requires.members c.requires.listed in
    let by_full = c.in_ok-graph.ensures.links full (subst (λ (ls : List Link). (l : Link) → Contains ls l ↔ IsTrue (full l.from l.to)) (sym (c.deref.ensures.value ∙ c.in_ok-full.ensures)) listed) in
    let sound = subst (λ (links : ℕ → ℕ → Bool). All (λ (found : Loop). IsIncompleteCycle links found.round.items) loops) by_full c.in_ok-loops.ensures.sound in
    let whole = subst (λ (links : ℕ → ℕ → Bool). (loops ≡ [] → Polygons links)) by_full c.in_ok-loops.ensures.whole in
    on_ok_weaker c.push_rounds.result
    (λ added. (
      map (loop_at carriers) loops,
      loops_by_full files tag carriers order loops sound whole,
      added ∙ ap (λ (ls : List Loop). c.args.all.now.items ++ map (loop_at carriers) ls) c.deref-2.ensures.value,
    ))
    c.push_rounds.ensures
