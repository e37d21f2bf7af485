use Rattle.std.proofs.{Common.arith, lemmas.Result.err_from_is_err_and}
use Rattle.base_store.proofs.Runs.{looks_then_commits}
use Rattle.echo_steps.proofs.Bounds.{full_now, no_room_now, past_looked}
use Rattle.echo_steps.proofs.posting.post_step.Goals as goal

pub file-requires-clause-new : goal.file-requires-clause-new
file-requires-clause-new g c = λ honest base kept. (c.in_ok-new.ensures.prepared honest base (c.prepared.ensures.looks.keeps_no_other base kept)).new

pub returns-in_err-file-clause-commits : goal.returns-in_err-file-clause-commits
returns-in_err-file-clause-commits g c =
    looks_then_commits (g.T.Store.state c.args.store.now) (g.T.Store.state c.prepared.new.store) (g.T.Store.state c.file.new.self) c.requires c.prepared.ensures.looks c.file.ensures.commits

pub returns-in_err-new-clause-many : goal.returns-in_err-new-clause-many
returns-in_err-new-clause-many g c = grind (arith, err_from_is_err_and, full_now)

pub returns-in_err-file-clause-many : goal.returns-in_err-file-clause-many
returns-in_err-file-clause-many g c =
    let p = err_from_is_err_and c.from_residual-in_err-file.result c.from_residual-in_err-file.ensures.1 in
    let looks = c.prepared.ensures.looks in
    rw (p.1, p.2) (λ is.
    past_looked g.T.Store.state _ _ _ c.requires looks
    (no_room_now g.T.Store.state _ c.prepared.new.store _ looks.ready (c.in_err-file.ensures.many is)
    (λ honest base kept. (c.in_ok-new.ensures.prepared honest base (looks.keeps_no_other base kept)).message)))
