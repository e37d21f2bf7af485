use Rattle.echo_text.proofs.OneReading.{one_text, written_again}
use Rattle.echo_text.proofs.laws.one_writing.Goals as goal

pub returns-clause-same : goal.returns-clause-same
returns-clause-same c = one_text

pub returns-clause-again : goal.returns-clause-again
returns-clause-again c = written_again
