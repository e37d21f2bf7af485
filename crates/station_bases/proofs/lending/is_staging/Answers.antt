use Rattle.std.{proofs.lemmas.{Bool.Decides.Decides-eqb, Slice.Eq.strip_prefix_is}, specs.Prelude.{◌++◌, None, Some, codes}}
use Rattle.station_bases.proofs.Lent.{prefix_by, prefix_none}
use Rattle.station_bases.proofs.lending.is_staging.Goals as goal

pub returns-in-Some : goal.returns-in-Some
returns-in-Some c =
    prefix_by c.args.base.now c.args.path.now (λ own. codes ".~" ++ (own ++ codes "~.new")) c.in-Some.rest.now c.is_ending.result
    (strip_prefix_is Decides-eqb c.args.path.now c.args.base.now (Some c.in-Some.rest) c.in-Some.ensures.cases) c.is_ending.ensures

pub returns-in-None : goal.returns-in-None
returns-in-None c =
    prefix_none c.args.base.now c.args.path.now (λ own. codes ".~" ++ (own ++ codes "~.new")) (strip_prefix_is Decides-eqb c.args.path.now c.args.base.now None c.in-None.ensures.cases)
