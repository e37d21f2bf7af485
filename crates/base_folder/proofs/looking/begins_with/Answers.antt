use Rattle.std.proofs.lemmas.{Bool.Decides.Decides-eqb, Slice.Eq.starts_is}
use Rattle.base_folder.proofs.looking.begins_with.Goals as goal

pub returns-clause-front : goal.returns-clause-front
returns-clause-front c = (starts_is Decides-eqb c.args.log.now c.args.records.now c.starts_with.result c.starts_with.ensures.value).1
