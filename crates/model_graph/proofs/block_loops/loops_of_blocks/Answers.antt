use Rattle.std.proofs.{Common.{◌∙◌, List, sym, subst, ap}, lemmas.{List.{Elements.All-push, Sorted.All-permutation}, Option.MatchOption-at_some}}
use Rattle.std.specs.List.{All}
use Rattle.model_graph.specs.{declared.polygons.Loop.Loop, Loops.IsIncompleteCycle, Rows.linked}
use Rattle.model_graph.proofs.block_loops.loops_of_blocks.Goals.{in-Some+in_ok-push, in_default}
use Rattle.model_graph.proofs.block_loops.loops_of_blocks.Goals as goal

pub numbers-preserved : goal.numbers-preserved
numbers-preserved c =
    let IsLoop : Loop → Type 0 = λ found. IsIncompleteCycle (linked c.args.graph.now) found.round.items in
    let before : List Loop = c.numbers.loops.items in
    elim c.match-branch-4.branch [
      | in-Some+in_ok-push w ↦
          subst (λ (now : List Loop). All IsLoop now) (sym (ap (λ v. v.items) w.loops-is ∙ w.in_ok-push.ensures.items))
          (All-push IsLoop before w.in-Some.found c.numbers.invariant (MatchOption-at_some (Unit {0}) IsLoop w.in-Some.found w.in-Some.is c.in_ok-found.ensures))
      | in_default w ↦ subst (λ (now : List Loop). All IsLoop now) (sym (ap (λ v. v.items) w.loops-is)) c.numbers.invariant
    ]

pub returns : goal.returns
returns c =
    All-permutation (λ (found : Loop). IsIncompleteCycle (linked c.args.graph.now) found.round.items) c.numbers.loops.items c.sort_unstable_by_key.new.self.items
    c.sort_unstable_by_key.ensures.permutation c.numbers.invariant
