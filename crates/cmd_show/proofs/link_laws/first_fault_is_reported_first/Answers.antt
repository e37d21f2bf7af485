use Rattle.cmd_show.proofs.Reported.{first_reported}
use Rattle.cmd_show.proofs.link_laws.first_fault_is_reported_first.Goals as goal

pub returns : goal.returns
returns c = λ bytes. first_reported bytes
