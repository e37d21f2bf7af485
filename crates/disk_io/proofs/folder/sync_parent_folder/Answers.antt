use Rattle.std.proofs.lemmas.Result.{on_ok_weaker}
use Rattle.disk_io.proofs.Folders.{in_folder_of}
use Rattle.disk_io.proofs.folder.sync_parent_folder.Goals as goal

pub returns-clause-durable : goal.returns-clause-durable
returns-clause-durable g c =
    on_ok_weaker c.sync_folder.result
    (λ named m is. named m (in_folder_of c.parent_folder.result.now c.args.path.now m c.parent_folder.ensures.inside is))
    c.sync_folder.ensures.durable

pub returns-clause-gone : goal.returns-clause-gone
returns-clause-gone g c =
    on_ok_weaker c.sync_folder.result
    (λ flushed m is none. flushed m (in_folder_of c.parent_folder.result.now c.args.path.now m c.parent_folder.ensures.inside is) none)
    c.sync_folder.ensures.gone
