use Rattle.std.proofs.lemmas.List.{Filters.dedup_is, Kept.Contains-dedup, Kept.Contains-from_dedup, Kept.IsStrictlySortedBy-dedup, Sorted.Contains-permutation, Sorted.IsPermutation-sym}
use Rattle.echo_addr.proofs.ascending.put_in_order.Goals as goal

pub returns : goal.returns
returns g c =
    let is = dedup_is _ _ _ c.dedup.ensures.filtered in
    let moved = c.sort_unstable.ensures.permutation in
    record {
      ascending = rw is (IsStrictlySortedBy-dedup g.met.T.Ord.total g.met.T.Ord.matches_eq _ c.sort_unstable.ensures.sorted);
      members = λ x. (
        λ h. Contains-permutation _ _ x (IsPermutation-sym _ _ moved) (Contains-from_dedup _ _ x (rw is at h)),
        λ h. rw is (Contains-dedup g.met.T.Eq.laws c.requires _ x (Contains-permutation _ _ x moved h)),
      );
    }
