use Rattle.echo_net.proofs.Scripts.{only_answer}
use Rattle.echo_net.proofs.script.read_script.Goals as goal

pub returns-clause-only : goal.returns-clause-only
returns-clause-only c = only_answer (λ v. v.items) c.args.bytes.now c.events_in.result c.events_in.ensures
