use Rattle.{std.proofs.Common.{◌∙◌, sym}, cmd_export.proofs.Statuses.never_good}
use Rattle.cmd_export.proofs.stored.FolderFiles.refuse.Goals as goal

pub returns : goal.returns
returns g c is = never_good c.output_fault.result (sym c.report.ensures ∙ is)
