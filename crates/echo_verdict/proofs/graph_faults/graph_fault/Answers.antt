use Rattle.std.proofs.{Common.{◌≡◌, ◌<◌, ◌∙◌, ℕ, Bool, List, length, map, sym, subst, ap, Option, MatchOption, arith}, lemmas.Option.MatchOption-at_some}
use Rattle.std.specs.List.{All}
use Rattle.echo_addr.specs.declared.address.Address.{Address}
use Rattle.model_graph.specs.{Walk.Connected, Cycle.Polygons, Loops.NamedLoop, Reach.FirstUnreached, Rows.linked}
use Rattle.model_run.{specs.Tidy.{Carries, lists}, proofs.Places.lister-carries as lister_carries}
use Rattle.echo_verdict.{specs.{Faults.numbered, Rows.system_at}, proofs.Collected.{at_none, is_apart, is_loop, is_tidy, loop_within, sound_links}}
use Rattle.echo_verdict.proofs.Owned.{parts, simple_numbers}
use Rattle.echo_verdict.proofs.graph_faults.graph_fault.Goals as goal

-- the result of a search of the graph, for the numbered links
renamed : (rows links : ℕ → ℕ → Bool) (m n : ℕ) (found : Option ℕ) → rows ≡ links → m ≡ n →
    MatchOption found (Connected (λ i. i < m) rows) (FirstUnreached rows m) → MatchOption found (Connected (λ i. i < n) links) (FirstUnreached links n)
renamed rows links m n found same size h =
    subst (λ (k : ℕ). MatchOption found (Connected (λ i. i < k) links) (FirstUnreached links k)) size
    (subst (λ (l : ℕ → ℕ → Bool). MatchOption found (Connected (λ i. i < m) l) (FirstUnreached l m)) same h)

pub returns-in-Some : goal.returns-in-Some
returns-in-Some c =
    let all : List Address = c.args.carriers.now in
    let joined = numbered all (lists c.args.files.now c.args.tag.now) in
    let found = renamed (linked c.args.graph.now) joined (length c.args.graph.now) (length all) c.in_ok-apart.apart c.requires.links c.requires.members c.in_ok-apart.ensures in
    is_apart c.args.files.now c.args.tag.now all c.requires.in_order c.requires.sound c.in-Some.place
    (MatchOption-at_some (Connected (λ i. i < length all) joined) (FirstUnreached joined (length all)) c.in-Some.place c.in-Some.is found)

pub systems_at-requires : goal.systems_at-requires
systems_at-requires c =
    let all : List Address = c.args.carriers.now in
    let joined = numbered all (lists c.args.files.now c.args.tag.now) in
    let places : List ℕ = c.in-Some-round.named.round.items in
    let named : NamedLoop (linked c.args.graph.now) places = grind (arith, MatchOption-at_some) in
    let cycle = (subst (λ (l : ℕ → ℕ → Bool). NamedLoop l places) c.requires.links named).cycle in
    let simple = simple_numbers (Carries c.args.files.now c.args.tag.now) (lists c.args.files.now c.args.tag.now) all c.requires.in_order (sound_links c.args.files.now c.args.tag.now c.requires.sound) (lister_carries c.args.files.now c.args.tag.now) in
    let inside = loop_within joined (length all) (λ i j h. (parts (Carries c.args.files.now c.args.tag.now) (lists c.args.files.now c.args.tag.now) all c.requires.in_order i j h).one) simple.both_ways simple.no_self places cycle in
    subst (λ (ps : List ℕ). All (λ place. place < length all) ps) (sym c.deref.ensures.value) inside

pub returns-in_ok-systems-in-Some-round : goal.returns-in_ok-systems-in-Some-round
returns-in_ok-systems-in-Some-round c =
    let all : List Address = c.args.carriers.now in
    let joined = numbered all (lists c.args.files.now c.args.tag.now) in
    let places : List ℕ = c.in-Some-round.named.round.items in
    let found = renamed (linked c.args.graph.now) joined (length c.args.graph.now) (length all) c.in_ok-apart.apart c.requires.links c.requires.members c.in_ok-apart.ensures in
    let whole = at_none (Connected (λ i. i < length all) joined) (FirstUnreached joined (length all)) c.in_ok-apart.apart c.in_default.not-Some found in
    let named : NamedLoop (linked c.args.graph.now) places = grind (arith, MatchOption-at_some) in
    is_loop c.args.files.now c.args.tag.now all c.requires.in_order c.requires.sound whole places (subst (λ (l : ℕ → ℕ → Bool). NamedLoop l places) c.requires.links named)
    c.new.result (c.new.ensures ∙ (c.in_ok-systems-in-Some-round.ensures ∙ ap (map (system_at all)) c.deref.ensures.value))

pub returns-in-None : goal.returns-in-None
returns-in-None c =
    let all : List Address = c.args.carriers.now in
    let joined = numbered all (lists c.args.files.now c.args.tag.now) in
    let found = renamed (linked c.args.graph.now) joined (length c.args.graph.now) (length all) c.in_ok-apart.apart c.requires.links c.requires.members c.in_ok-apart.ensures in
    let whole = at_none (Connected (λ i. i < length all) joined) (FirstUnreached joined (length all)) c.in_ok-apart.apart c.in_default.not-Some found in
    let polygons : Polygons (linked c.args.graph.now) = grind (arith, at_none) in
    is_tidy c.args.files.now c.args.tag.now all c.requires.in_order c.requires.sound whole (subst (λ (l : ℕ → ℕ → Bool). Polygons l) c.requires.links polygons)
