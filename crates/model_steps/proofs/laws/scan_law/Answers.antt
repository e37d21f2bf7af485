use Rattle.model_steps.proofs.Copies.{scanned_accepted}
use Rattle.model_steps.proofs.laws.scan_law.Goals as goal

pub returns : goal.returns
returns c = scanned_accepted
