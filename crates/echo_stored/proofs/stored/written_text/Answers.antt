use Rattle.std.proofs.Common.{ap}
use Rattle.echo_filed.proofs.Sendings.{written_is}
use Rattle.echo_stored.proofs.stored.written_text.Goals as goal

pub returns : goal.returns
returns c = written_is c.message.inside.echo c.args.message.now.echo c.write_text.result (ap (λ m. m.echo) c.message.view_is) c.message.invariant.is_echo c.write_text.ensures
