use Rattle.std.proofs.Common.{sym, ◌∙◌}
use Rattle.echo_packet.proofs.{Existence.some_answer, Outcome.only_one}
use Rattle.echo_packet.proofs.laws.one_answer.Goals as goal

pub returns : goal.returns
returns c = λ limits bs bytes.
    let some = some_answer limits bs bytes in
    (some.0, some.1, λ other d. only_one limits bs other d ∙ sym (only_one limits bs some.0 some.1))
