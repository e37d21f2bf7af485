use Rattle.echo_packet.proofs.MessageByMessage.{run-opens, run-gives, run-ends, run-fails}
use Rattle.echo_packet.proofs.laws.whole_runs.Goals as goal

pub returns-clause-opens : goal.returns-clause-opens
returns-clause-opens c = run-opens

pub returns-clause-gives : goal.returns-clause-gives
returns-clause-gives c = run-gives

pub returns-clause-ends : goal.returns-clause-ends
returns-clause-ends c = run-ends

pub returns-clause-fails : goal.returns-clause-fails
returns-clause-fails c = run-fails
