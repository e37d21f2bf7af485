use Rattle.std.proofs.Common.{◌∙◌, append-nil, inr, sym, arith}
use Rattle.echo_net.proofs.Scripts.{event_events, event_fault, other_fault, skipped_events, skipped_fault}
use Rattle.echo_net.proofs.script.take_line.Goals as goal

pub returns-then-is_skipped : goal.returns-then-is_skipped
returns-then-is_skipped c = grind (arith, skipped_fault, skipped_events, append-nil)

pub returns-in_default : goal.returns-in_default
returns-in_default c =
    inr (other_fault c.args.number c.args.line.now (sym c.is_skipped.ensures ∙ c.if-is_skipped.false) (sym c.in_ok-event.ensures ∙ c.in_default.is))

pub returns : goal.returns
returns c = grind (arith, event_fault, event_events)
