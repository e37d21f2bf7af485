use Rattle.std.proofs.{Common.{◌≡◌, ◌<◌, ◌≤◌, ℕ, Bool, Option, Some, List, length, get_or, sym, ◌∙◌, ap, arith}, lemmas.{List.get_or_read, Option.same_Some}}
use Rattle.model_graph.{specs.{Rows.linked, Levels.level_of, Floods.Flooding}, proofs.Floods.{level_within, Flooding-step}}
use Rattle.model_graph.proofs.levels.flood.Goals as goal

at_head : (links : ℕ → ℕ → Bool) (without root : ℕ) (old levels : List (Option ℕ)) (queue : List ℕ) (head member : ℕ) → Flooding links without root old levels queue head → head < length queue → member ≡ get_or queue head member → (m : ℕ) × (level_of levels member ≡ Some m) × (m ≤ head) × (get_or queue head 0 ≡ member)
at_head links without root old levels queue head member f lt read = grind (arith, get_or, get_or_read)

level_read : (levels : List (Option ℕ)) (member : ℕ) (read : Option ℕ) (level m : ℕ) → level_of levels member ≡ Some m → read ≡ get_or levels member read → read ≡ Some level → level ≡ m
level_read levels member read level m has is some = grind (arith, get_or_read, level_within, same_Some)

pub index-requires : goal.index-requires
index-requires c =
    let h = at_head (linked c.args.graph.now) c.args.without c.args.root c.args.levels.now.items c.flooding.levels.items c.flooding.queue.items c.flooding.head c.index-member.result.now c.flooding.invariant (omega arith) c.index-member.ensures in
    omega (arith, level_within c.flooding.levels.items c.index-member.result.now h.0 h.1)

pub overflow_add-level : goal.overflow_add-level
overflow_add-level c =
    let h = at_head (linked c.args.graph.now) c.args.without c.args.root c.args.levels.now.items c.flooding.levels.items c.flooding.queue.items c.flooding.head c.index-member.result.now c.flooding.invariant (omega arith) c.index-member.ensures in
    let level = level_read c.flooding.levels.items c.index-member.result.now c.index.result.now c.unwrap-level.result h.0 h.1 c.index.ensures c.unwrap-level.ensures in
    omega (arith, h.2, level)

pub visit-requires-clause-inside : goal.visit-requires-clause-inside
visit-requires-clause-inside c =
    let h = at_head (linked c.args.graph.now) c.args.without c.args.root c.args.levels.now.items c.flooding.levels.items c.flooding.queue.items c.flooding.head c.index-member.result.now c.flooding.invariant (omega arith) c.index-member.ensures in
    omega (arith, level_within c.flooding.levels.items c.index-member.result.now h.0 h.1, c.flooding.invariant.same_length)

pub flooding-preserved : goal.flooding-preserved
flooding-preserved c =
    let links = linked c.args.graph.now in
    let member : ℕ = c.index-member.result.now in
    let before : List (Option ℕ) = c.flooding.levels.items in
    let queue : List ℕ = c.flooding.queue.items in
    let head : ℕ = c.flooding.head in
    let lt : head < length queue = omega arith in
    let h = at_head links c.args.without c.args.root c.args.levels.now.items before queue head member c.flooding.invariant lt c.index-member.ensures in
    let level = level_read before member c.index.result.now c.unwrap-level.result h.0 h.1 c.index.ensures c.unwrap-level.ensures in
    Flooding-step c.args.graph.now c.args.without c.args.root c.args.levels.now.items before c.visit.new.levels.items queue c.visit.new.queue.items head member c.unwrap-level.result c.in_ok-visit.ensures.sound c.requires.settled c.flooding.invariant lt h.3 (h.1 ∙ ap Some (sym level)) c.in_ok-visit.ensures.visited
