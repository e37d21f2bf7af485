use Rattle.std.{proofs.lemmas.{Bool.Decides.Decides-eqb, Slice.Eq.strip_prefix_is}, specs.Prelude.{None, Some}}
use Rattle.station_bases.proofs.FolderLent.{is_in_by, not_in}
use Rattle.station_bases.proofs.folder_lending.is_in.Goals as goal

pub returns-in-Some : goal.returns-in-Some
returns-in-Some c =
    is_in_by c.args.folder.now c.args.path.now c.in-Some.name.now c.is_plain.result
    (strip_prefix_is Decides-eqb c.args.path.now c.args.folder.now (Some c.in-Some.name) c.in-Some.ensures.cases)
    c.is_plain.ensures.yes c.is_plain.ensures.no

pub returns-in-None : goal.returns-in-None
returns-in-None c = not_in c.args.folder.now c.args.path.now (strip_prefix_is Decides-eqb c.args.path.now c.args.folder.now None c.in-None.ensures.cases)
