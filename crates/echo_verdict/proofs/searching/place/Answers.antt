use Rattle.std.{proofs.Common.{◌∙◌, ap}, specs.Ordering.is_eq}
use Rattle.echo_verdict.proofs.Orders.{searched_place}
use Rattle.echo_verdict.proofs.searching.place.Goals as goal

pub returns : goal.returns
returns g c = rw c.ok.ensures.value
    (searched_place g.met.T.Ord.total (λ x y e. c.requires.exact x y (g.met.T.Ord.matches_eq x y ∙ ap is_eq e))
    c.args.values.now c.args.value.now c.requires.ascending c.binary_search.result c.binary_search.ensures.bound c.binary_search.ensures.position)
