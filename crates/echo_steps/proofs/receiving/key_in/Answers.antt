use Rattle.echo_steps.proofs.Tossed.{key_received}
use Rattle.echo_steps.proofs.receiving.key_in.Goals as goal

pub returns : goal.returns
returns c = key_received c.of_front.result c.args.packed.now _ _ _ _ _ _ c.date.ensures c.to_name.ensures c.from_name.ensures c.subject.ensures c.requires c.of_front.ensures
