use Rattle.{std.proofs.{Common.arith, lemmas.Result.err_from_is_err_and}, echo_steps.proofs.Bounds.{past_looked, past_wider}}
use Rattle.cmd_store.proofs.FreePostings.{filed_first, looks_known, none_looked, one_more_looked, refused_known, refused_on, sound_known}
use Rattle.cmd_store.proofs.serials.file_free.Goals as goal

pub serials-init : goal.serials-init
serials-init g c = none_looked c.args.links.now _ _ c.args.words.serial c.requires (omega arith)

pub serials-preserved : goal.serials-preserved
serials-preserved g c =
    let so = c.serials.invariant in
    let known = c.is_of_serial.ensures.0 c.if-not-is_of_serial.false in
    one_more_looked c.args.links.now _ _ _ _ _ _ c.args.words.serial c.serials.serial c.serials._steps c.args.words.tag.now c.args.draft.now c.args.words.stamp so
    (looks_known _ _ c.in-Err.stop known c.in-Err.ensures.looks) c.in-Err.ensures.cause.later (sound_known _ _ _ _ c.in-Err.stop known c.in-Err.ensures.cause)
    (λ honest base kept. refused_known c.args.links.now base.messages c.args.words.tag.now c.args.draft.now c.serials.serial c.args.words.stamp c.in-Err.stop known (c.in-Err.ensures.stop honest base kept))

pub returns-in-Ok-clause-filed : goal.returns-in-Ok-clause-filed
returns-in-Ok-clause-filed g c = λ honest base kept.
    let so = c.serials.invariant in
    let now = so.looks.keeps base kept in
    filed_first c.args.links.now _ _ _ _ _ c.serials.serial c.serials._steps c.args.words c.args.draft.now base so (c.in-Ok.ensures.ends.goes_on.honest honest) kept
    (c.in-Ok.ensures.allowed honest base now) (c.in-Ok.ensures.filed honest base now)

pub returns-in-Err-clause-filed : goal.returns-in-Err-clause-filed
returns-in-Err-clause-filed g c = λ honest base kept.
    let so = c.serials.invariant in
    let other = c.if-not-is_of_serial.true in
    refused_on c.args.links.now _ c.args.words c.args.draft.now c.serials.serial base c.in-Err.stop (c.in-Err.ensures.stop honest base (so.looks.keeps base kept))
    (λ same. let known = c.is_of_serial.ensures.1 same in absurd (cc))

pub returns-in-Err-clause-many : goal.returns-in-Err-clause-many
returns-in-Err-clause-many g c = λ is.
    past_looked g.T.Store.state _ _ _ c.requires c.serials.invariant.looks (past_wider g.T.Store.state _ _ _ (λ base m adds. (c.serials.serial, adds)) (c.in-Err.ensures.many is))

pub returns-in_err-post_step-clause-many : goal.returns-in_err-post_step-clause-many
returns-in_err-post_step-clause-many g c =
    let p = err_from_is_err_and c.from_residual.result c.from_residual.ensures.1 in
    rw (p.1, p.2) (λ is.
    past_looked g.T.Store.state _ _ _ c.requires c.serials.invariant.looks (past_wider g.T.Store.state _ _ _ (λ base m adds. (c.serials.serial, adds)) (c.in_err-post_step.ensures.many is)))
