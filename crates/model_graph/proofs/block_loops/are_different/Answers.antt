use Rattle.std.proofs.Common.{subst, ℕ, List}
use Rattle.std.specs.List.Sorted.{IsPermutation}
use Rattle.model_graph.{specs.Rows.IsAscending, proofs.Rounds.different_once_sorted}
use Rattle.model_graph.proofs.block_loops.are_different.Goals as goal

pub returns : goal.returns
returns c is =
    different_once_sorted c.args.round.now c.sort_unstable.new.self.items
    (subst (λ (xs : List ℕ). IsPermutation xs c.sort_unstable.new.self.items) c.in_ok-sorted.ensures.items c.sort_unstable.ensures.permutation)
    (subst IsAscending c.deref.ensures.value (c.is_ascending.ensures.0 is))
