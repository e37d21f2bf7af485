use Rattle.std.proofs.Common.{◌≡◌, ◌<◌, ℕ, length, ◌+◌, false, List, Option, None, Some, get_or, not, set, is_some, sym, ◌∙◌, ap, subst, refl, arith}
use Rattle.std.proofs.lemmas.List.{get_or_read}
use Rattle.model_graph.specs.{Rows.links_at, Rows.IsGraph, Levels.level_of, Visits.Visited}
use Rattle.model_graph.proofs.{Rows.holds_at, Floods.none_from, Floods.some_from, Floods.Visited-passed, Floods.Visited-made}
use Rattle.model_graph.proofs.levels.visit.Goals.{then-other-without+then-is_none+in_ok-push, else-other-without, else-other-without-via-then-other-without+else-is_none, else-other-without-via-else-other-without}
use Rattle.model_graph.proofs.levels.visit.Goals as goal

link_inside : (rows : List (List ℕ)) (member k : ℕ) (links : List ℕ) → IsGraph rows → links ≡ links_at rows member → k < length links → get_or links k 0 < length rows
link_inside rows member k links graph is lt =
    graph.within member (get_or links k 0) (holds_at (links_at rows member) (get_or links k 0) k (subst (λ (row : List ℕ). k < length row) is lt) (ap (λ (row : List ℕ). get_or row k 0) (sym is)))

pub index-requires : goal.index-requires
index-requires c = grind (arith, link_inside)

pub index_mut-requires : goal.index_mut-requires
index_mut-requires c = grind (arith, link_inside)

pub visiting-preserved : goal.visiting-preserved
visiting-preserved c =
    let row : List ℕ = c.links-other-items.result.now in
    let k : ℕ = c.visiting.other-index in
    let other : ℕ = get_or row k 0 in
    let before : List (Option ℕ) = c.visiting.levels.items in
    let inside = link_inside c.args.graph.now c.args.member k row c.links-other-items.ensures.sound c.links-other-items.ensures.value c.visiting-test.true in
    let held : other < length before = omega (arith, inside, c.visiting.invariant.same_length, c.requires.same_length) in
    elim c.if-other-without.branch [
      | then-other-without+then-is_none+in_ok-push w ↦
          let unset : is_some w.index.result.now ≡ false = w.is_none.ensures ∙ ap not w.if-is_none.true in
          let none : level_of before other ≡ None = sym (get_or_read before other w.index.result.now held w.index.ensures None) ∙ none_from w.index.result.now unset in
          subst (λ (now : List (Option ℕ)). Visited row (k + 1) c.args.without c.args.level c.args.levels.now.items now c.args.queue.now.items c.if-other-without.queue.items) (sym (ap (λ v. v.items) w.levels-is))
          (subst (λ (now : List ℕ). Visited row (k + 1) c.args.without c.args.level c.args.levels.now.items (set before other (Some c.args.level)) c.args.queue.now.items now) (sym (ap (λ v. v.items) w.queue-is ∙ w.in_ok-push.ensures.items))
          (Visited-made row k c.args.without c.args.level c.args.levels.now.items before c.args.queue.now.items c.visiting.queue.items other c.visiting.invariant c.visiting-test.true refl w.if-other-without.true held none))
      | else-other-without w ↦
          subst (λ (now : List (Option ℕ)). Visited row (k + 1) c.args.without c.args.level c.args.levels.now.items now c.args.queue.now.items c.if-other-without.queue.items) (sym (ap (λ v. v.items) w.levels-is))
          (subst (λ (now : List ℕ). Visited row (k + 1) c.args.without c.args.level c.args.levels.now.items before c.args.queue.now.items now) (sym (ap (λ v. v.items) w.queue-is))
          (Visited-passed row k c.args.without c.args.level c.args.levels.now.items before c.args.queue.now.items c.visiting.queue.items c.visiting.invariant
          (elim w.else-other-without.branch [
            | else-other-without-via-then-other-without+else-is_none w' ↦ grind (arith, some_from, get_or_read)
            | else-other-without-via-else-other-without w' ↦ λ apart. absurd (apart w'.if-other-without.false)
          ])))
    ]
