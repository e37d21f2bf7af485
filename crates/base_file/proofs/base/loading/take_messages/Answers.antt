use Rattle.std.proofs.{Common.arith, lemmas.List.length-append, lemmas.Result.err_from_is_err_and}
use Rattle.base_file.proofs.Failing.{message_fails, taken_more}
use Rattle.base_file.proofs.base.loading.take_messages.Goals as goal

pub messages-preserved : goal.messages-preserved
messages-preserved g c = grind (arith, taken_more, length-append)

pub returns-in_err-take_message-clause-taken : goal.returns-in_err-take_message-clause-taken
returns-in_err-take_message-clause-taken g c =
    let so = c.messages.invariant in
    let head = c.args.head in
    let p = err_from_is_err_and c.from_residual.result c.from_residual.ensures.1 in
    rw (p.1, p.2) (λ old' took fits within.
    message_fails head.version head.cursor head.number c.messages.base.messages c.take_message.new.base.messages old' _ _ _ _ fits within
    (omega (arith, c.len.ensures.count, c.messages-test.true)) took so.so c.in_err-take_message.ensures.taken)
