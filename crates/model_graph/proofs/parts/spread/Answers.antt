use Rattle.std.proofs.{Common.{◌≡◌, ◌<◌, ℕ, Option, List, length, get_or, subst, arith}, lemmas.List.get_or_read}
use Rattle.model_graph.{specs.{Rows.{links_at}, Visits.Visited}, proofs.{Floods.level_within, Labels.{AreLabelled-spread, Spreading-step}}}
use Rattle.model_graph.proofs.parts.spread.Goals as goal

at_head : (queue : List ℕ) (head member : ℕ) → head < length queue → member ≡ get_or queue head member → get_or queue head 0 ≡ member
at_head queue head member lt read = grind (arith, get_or_read)

pub visit-requires-clause-inside : goal.visit-requires-clause-inside
visit-requires-clause-inside c =
    let queue : List ℕ = c.spreading.queue.items in
    let labels : List (Option ℕ) = c.spreading.labels.items in
    let member : ℕ = c.index-member.result.now in
    let lt : c.spreading.head < length queue = omega arith in
    let at = at_head queue c.spreading.head member lt c.index-member.ensures in
    let labelled = (c.spreading.invariant.queued c.spreading.head lt).1 in
    let inside = level_within labels (get_or queue c.spreading.head 0) c.args.root labelled in
    omega (arith, inside, at, c.spreading.invariant.same_length)

pub spreading-preserved : goal.spreading-preserved
spreading-preserved c =
    let rows : List (List ℕ) = c.args.graph.now in
    let queue : List ℕ = c.spreading.queue.items in
    let labels : List (Option ℕ) = c.spreading.labels.items in
    let member : ℕ = c.index-member.result.now in
    let lt : c.spreading.head < length queue = omega arith in
    let at = at_head queue c.spreading.head member lt c.index-member.ensures in
    Spreading-step rows c.args.root c.args.labels.now.items labels c.visit.new.levels.items queue c.visit.new.queue.items c.spreading.head member
    c.in_ok-visit.ensures.sound c.spreading.invariant lt at
    (subst (λ (n : ℕ). Visited (links_at rows member) (length (links_at rows member)) n c.args.root labels c.visit.new.levels.items queue c.visit.new.queue.items) c.len-members.ensures.value c.in_ok-visit.ensures.visited)

pub returns-clause-labelled : goal.returns-clause-labelled
returns-clause-labelled c =
    AreLabelled-spread c.args.graph.now c.args.root c.args.labels.now.items c.spreading.labels.items c.spreading.queue.items c.spreading.head
    c.len-members.ensures.sound c.requires.labelled c.requires.none c.requires.earlier c.spreading.invariant (omega arith)
