use Rattle.std.proofs.Common.{◌∙◌, arith}
use Rattle.base_folder_store.specs.Extent.{bytes_of}
use Rattle.base_folder_store.proofs.{Causes.answers_error, Extents.size_is}
use Rattle.base_folder_store.proofs.extent.is_at.Goals as goal

pub returns-in_err-at-clause-found : goal.returns-in_err-at-clause-found
returns-in_err-at-clause-found g c honest = grind (arith, answers_error, size_is)

pub returns-in-Some-clause-found : goal.returns-in-Some-clause-found
returns-in-Some-clause-found g c honest = λ s m alone has part.
    let x = c.args.extent in
    let file = bytes_of (g.D.Disk.state c.args.disk.now) x in
    let long = size_is (g.D.Disk.state c.args.disk.now) x c.requires.head (c.requires.readable (c.read.ensures.quiet.honest honest)) in
    let same = c.in-Some.ensures.part file (c.read.ensures.part honest part) ∙ c.in_ok-at.ensures.bytes file s long has in
    c.is_stored.ensures.found m (record { s = alone.s; size = alone.size; alone = alone.alone; is = alone.is; same = same ∙ alone.same })
