use Rattle.std.proofs.{Common.arith, lemmas.Result.err_from_is_err_and}
use Rattle.echo_steps.proofs.Bounds.{full_now, handed_many, no_room_now, past_looked}
use Rattle.echo_steps.proofs.tossing.toss_step.Goals as goal

pub file-requires-clause-new : goal.file-requires-clause-new
file-requires-clause-new g c = λ honest base kept. grind arith

pub returns-in_err-verdict-clause-many : goal.returns-in_err-verdict-clause-many
returns-in_err-verdict-clause-many g c = grind (arith, err_from_is_err_and, full_now, handed_many)

pub returns-in_err-file-in-New-clause-many : goal.returns-in_err-file-in-New-clause-many
returns-in_err-file-in-New-clause-many g c =
    let p = err_from_is_err_and c.from_residual-in_err-file-in-New.result c.from_residual-in_err-file-in-New.ensures.1 in
    let looks = c.judged.ensures.looks in
    rw (p.1, p.2) (λ is.
    past_looked g.T.Store.state _ _ _ c.requires looks
    (no_room_now g.T.Store.state _ c.judged.new.store _ looks.ready (c.in_err-file-in-New.ensures.many (handed_many c.in_err-file-in-New.field-0.0 is))
    (λ honest base kept. let h = rw c.in-New.is at c.in_ok-verdict.ensures.verdict honest base (looks.keeps_no_other base kept) in h.message)))
