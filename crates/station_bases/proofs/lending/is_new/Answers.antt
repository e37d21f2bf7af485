use Rattle.std.{proofs.lemmas.{Bool.Decides.Decides-eqb, Slice.Eq.strip_suffix_is}, specs.Prelude.{None, Some, codes}}
use Rattle.station_bases.proofs.Lent.{suffix_by, suffix_none}
use Rattle.station_bases.proofs.lending.is_new.Goals as goal

pub returns-in-Some : goal.returns-in-Some
returns-in-Some c =
    suffix_by (codes "~.new") c.args.name.now c.in-Some._own.now
    (strip_suffix_is Decides-eqb c.args.name.now (codes "~.new") (Some c.in-Some._own) c.in-Some.ensures.cases)

pub returns-in-None : goal.returns-in-None
returns-in-None c = suffix_none (codes "~.new") c.args.name.now (strip_suffix_is Decides-eqb c.args.name.now (codes "~.new") None c.in-None.ensures.cases)
