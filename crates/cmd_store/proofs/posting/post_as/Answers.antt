use Rattle.std.proofs.{Common.arith, lemmas.Result.err_from_is_err_and}
use Rattle.base_store.proofs.Runs.{looks_commit, looks_go_on, no_look}
use Rattle.echo_steps.{specs.PacketsIn.state_in, proofs.Bounds.past_wider}
use Rattle.cmd_store.proofs.{Commits.caused_after, Commits.committed_where, Commits.makes_none, Commits.makes_then, Commits.met_after, Commits.met_refused, Commits.ready_where, FreePostings.as_memory, FreePostings.as_posts, FreePostings.as_printed, FreePostings.as_stopped, Postings.post_caused, Bounded.full_after, Bounded.post_many}
use Rattle.cmd_store.proofs.posting.post_as.Goals as goal

pub returns-in_err-draft-clause-answers : goal.returns-in_err-draft-clause-answers
returns-in_err-draft-clause-answers g c =
    let p = err_from_is_err_and c.from_residual.result c.from_residual.ensures.1 in
    rw (p.1, p.2) (λ honest base kept. as_memory c.args.free c.args.words (state_in c.args.links.now base) c.args.body.now _)

pub returns-in_err-draft-clause-met : goal.returns-in_err-draft-clause-met
returns-in_err-draft-clause-met g c = grind (arith, err_from_is_err_and, looks_commit, no_look, looks_go_on)

pub returns-in_err-draft-clause-crash : goal.returns-in_err-draft-clause-crash
returns-in_err-draft-clause-crash g c = makes_none _ _ _ (looks_commit _ _ c.requires (no_look _ c.requires))

pub returns-in_err-serial-clause-answers : goal.returns-in_err-serial-clause-answers
returns-in_err-serial-clause-answers g c =
    let p = err_from_is_err_and c.from_residual-in_err-serial.result c.from_residual-in_err-serial.ensures.1 in
    rw (p.1, p.2) (λ honest base kept. as_stopped c.args.free c.args.words c.args.links.now base _ c.args.body.now _ c.in_ok-draft.draft c.in_err-serial.field-0.0 c.in_ok-draft.ensures
    (c.in_err-serial.ensures.filed honest base kept))

pub returns-in_err-serial-clause-met : goal.returns-in_err-serial-clause-met
returns-in_err-serial-clause-met g c = grind (arith, err_from_is_err_and, met_refused)

pub returns-in_err-serial-clause-crash : goal.returns-in_err-serial-clause-crash
returns-in_err-serial-clause-crash g c = makes_none _ _ _ c.file_as.ensures.commits

pub returns-in_err-serial-clause-cause : goal.returns-in_err-serial-clause-cause
returns-in_err-serial-clause-cause g c = grind (arith, err_from_is_err_and, post_caused)

pub returns-clause-answers : goal.returns-clause-answers
returns-clause-answers g c = grind (arith, as_printed)

pub returns-clause-committed : goal.returns-clause-committed
returns-clause-committed g c = grind (arith, as_posts, committed_where)

pub returns-clause-ready : goal.returns-clause-ready
returns-clause-ready g c = ready_where _ _ c.leave_posted.result c.leave_posted.ensures.committed

pub returns-clause-met : goal.returns-clause-met
returns-clause-met g c = met_after _ _ _ c.leave_posted.result c.file_as.ensures.commits c.in_ok-serial.ensures.goes_on c.leave_posted.ensures.met

pub returns-clause-crash : goal.returns-clause-crash
returns-clause-crash g c =
    makes_then _ _ _ _ c.file_as.ensures.commits c.in_ok-serial.ensures.goes_on
    (λ before base kept.
    let filed = c.in_ok-serial.ensures.filed before base kept in (
      _,
      as_posts c.args.free c.args.links.now c.args.words c.args.body.now base _ c.in_ok-serial.serial c.in_ok-draft.draft c.in_ok-draft.ensures filed,
      filed.keeps,
    )) c.leave_posted.ensures.either

pub returns-clause-cause : goal.returns-clause-cause
returns-clause-cause g c = grind (arith, caused_after)

pub returns-in_err-serial-clause-many : goal.returns-in_err-serial-clause-many
returns-in_err-serial-clause-many g c = grind (arith, err_from_is_err_and, post_many, past_wider)

pub returns-clause-many : goal.returns-clause-many
returns-clause-many g c = λ is. full_after g.T.Store.state _ _ _ c.file_as.new.store c.file_as.ensures.commits c.in_ok-serial.ensures.goes_on (c.leave_posted.ensures.many is)
