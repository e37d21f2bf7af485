use Rattle.std.proofs.{Common.◌++◌, Common.List, Common.ap, Common.arith, Common.drop, Common.sym, lemmas.Result.err_from_is_err_and}
use Rattle.base_store.proofs.Runs.{looks_twice, no_look}
use Rattle.echo_steps.{specs.Exports.{OutgoingMessage, is_sent, outgoing_of, sent_of}, proofs.{Exports.next_waits, Bounds.{full_looked, handed_many}}}
use Rattle.echo_steps.proofs.grouping.gather_group.Goals as goal

pub group-init : goal.group-init
group-init g c = (
  λ honest base kept.
      let found = c.in_ok-push_message.ensures.grown honest base kept in
      let rest = sent_of c.args.links.now (drop c.args.from base.messages) in
      next_waits is_sent (outgoing_of c.args.links.now) base.messages c.args.from found.0 _ _ _ (sym found.1) (ap (λ (l : List OutgoingMessage). l ++ rest) c.new-sent.ensures.items) found.2,
  c.push_message.ensures.looks,
  c.push_message.ensures.cause.later,
  c.in_ok-push_message.ensures.cause.undamaged,
  omega arith,
  omega (arith, c.requires.some),
  c.push_message.ensures.ways,
)

pub group-preserved : goal.group-preserved
group-preserved g c =
    let so = c.group.invariant in (
      λ honest base kept.
          let was = so.0 (c.push_message-in-group.ensures.looks.quiet.honest honest) base kept in
          let found = c.in_ok-push_message-2.ensures.grown honest base (so.1.keeps base kept) in
          next_waits is_sent (outgoing_of c.args.links.now) base.messages c.group.at found.0 _ _ _ (sym found.1) was found.2,
      looks_twice _ _ _ so.1 c.push_message-in-group.ensures.looks,
      omega (arith, so.2, c.push_message-in-group.ensures.cause.later),
      λ sound. c.in_ok-push_message-2.ensures.cause.undamaged (so.3 sound),
      omega (arith, so.4),
      omega (arith, c.group-test.true),
      c.push_message-in-group.ensures.ways,
    )

pub returns-in_err-push_message-clause-many : goal.returns-in_err-push_message-clause-many
returns-in_err-push_message-clause-many g c = grind (arith, err_from_is_err_and, full_looked, no_look, handed_many)

pub returns-in_err-push_message-2-clause-many : goal.returns-in_err-push_message-2-clause-many
returns-in_err-push_message-2-clause-many g c = grind (arith, err_from_is_err_and, full_looked, handed_many)
