use Rattle.std.proofs.Common.{◌∙◌}
use Rattle.echo_steps.proofs.outgoing.prepared_on.Goals as goal

pub prepared_for-requires-clause-receivers : goal.prepared_for-requires-clause-receivers
prepared_for-requires-clause-receivers c =
    c.new.ensures ∙ c.in_ok-receivers.ensures.items ∙ c.as_slice.ensures ∙ c.requires.way.receivers c.args.message.now c.requires.came

pub prepared_for-requires-clause-lines : goal.prepared_for-requires-clause-lines
prepared_for-requires-clause-lines c = c.as_slice-2.ensures ∙ c.requires.way.lines c.args.message.now c.requires.came
