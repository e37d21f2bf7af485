use Rattle.std.proofs.{Common.sym, Common.arith, lemmas.Result.err_from_is_err_and}
use Rattle.base_store.proofs.Runs.{looks_twice}
use Rattle.echo_steps.{specs.Exports.{is_sent, outgoing_of}, proofs.{Exports.next_waits, Bounds.{full_looked, handed_many}}}
use Rattle.echo_steps.proofs.outgoing.waiting.Goals as goal

pub waiting-preserved : goal.waiting-preserved
waiting-preserved g c =
    let so = c.waiting.invariant in (
      λ honest base kept.
          let was = so.0 (c.push_message.ensures.looks.quiet.honest honest) base kept in
          let found = c.in_ok-push_message.ensures.grown honest base (so.1.keeps base kept) in (
            was.0,
            next_waits is_sent (outgoing_of c.args.links.now) base.messages c.waiting.at found.0 _ _ _ (sym found.1) was.1 found.2,
          ),
      looks_twice _ _ _ so.1 c.push_message.ensures.looks,
      omega (arith, so.2, c.push_message.ensures.cause.later),
      λ sound. c.in_ok-push_message.ensures.cause.undamaged (so.3 sound),
      c.push_message.ensures.ways,
    )

pub returns-in_err-push_message-clause-many : goal.returns-in_err-push_message-clause-many
returns-in_err-push_message-clause-many g c = grind (arith, err_from_is_err_and, full_looked, handed_many)
