use Rattle.{cmd_status.proofs.Lines.none_begun, cmd_repair.proofs.Printings.at_error}
use Rattle.cmd_repair.proofs.listing.print_id.Goals as goal

pub returns-in_err-push_escaped-clause-begun : goal.returns-in_err-push_escaped-clause-begun
returns-in_err-push_escaped-clause-begun g c = at_error c.from_residual.result (none_begun _ _)
