use Rattle.std.{proofs.{Common.arith, lemmas.{Bool.Decides.Decides-eqb, Slice.Eq.strip_prefix_is}}, specs.Prelude.{◌++◌, None, codes}}
use Rattle.station_bases.proofs.Lent.{prefix_by, prefix_none}
use Rattle.station_bases.proofs.lending.is_ending.Goals as goal

pub returns-in-Some : goal.returns-in-Some
returns-in-Some c = grind (arith, prefix_by, strip_prefix_is, Decides-eqb)

pub returns-in-None : goal.returns-in-None
returns-in-None c =
    prefix_none (codes ".~") c.args.rest.now (λ own. own ++ codes "~.new") (strip_prefix_is Decides-eqb c.args.rest.now (codes ".~") None c.in-None.ensures.cases)
