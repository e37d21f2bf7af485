use Rattle.std.proofs.Common.{sym}
use Rattle.model_run.{specs.Run.start, proofs.ExportLists.events-packets}
use Rattle.model_run.proofs.laws.packets_are_exports.Goals as goal

pub returns : goal.returns
returns c = λ files events. sym (events-packets events (start files) 0)
