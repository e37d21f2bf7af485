use Rattle.std.{proofs.{Common.{sym, ap, ◌∙◌, arith}, lemmas.Result.err_from_is_err_and}, specs.List.list_any}
use Rattle.echo_text.specs.Ids.{id_of}
use Rattle.echo_filed.specs.Filed.{has_id}
use Rattle.echo_steps.proofs.Judged.{draft_passes, draft_refused, memory_fault, prepared}
use Rattle.echo_steps.proofs.posting.prepared.Goals as goal

pub returns-in_err-judge_draft-clause-prepared : goal.returns-in_err-judge_draft-clause-prepared
returns-in_err-judge_draft-clause-prepared g c =
    let p = err_from_is_err_and c.from_residual.result c.from_residual.ensures.1 in
    rw (p.1, p.2)
    (λ honest base kept. draft_refused c.args.links.now base.messages c.args.tag.now c.args.draft.now c.args.serial c.args.stamp c.in_err-judge_draft.field-0.0 c.in_err-judge_draft.ensures)

pub returns-in_err-is_known-clause-prepared : goal.returns-in_err-is_known-clause-prepared
returns-in_err-is_known-clause-prepared g c = grind (arith, err_from_is_err_and, memory_fault)

pub returns-then-branch-clause-prepared : goal.returns-then-branch-clause-prepared
returns-then-branch-clause-prepared g c = grind (arith, draft_passes)

pub returns-in_err-made-clause-prepared : goal.returns-in_err-made-clause-prepared
returns-in_err-made-clause-prepared g c = grind (arith, err_from_is_err_and, memory_fault)

pub returns-clause-prepared : goal.returns-clause-prepared
returns-clause-prepared g c = λ honest base kept.
    prepared c.args.links.now base.messages c.args.tag.now c.args.draft.now c.args.serial c.args.stamp c.in_ok-made.field-0.0 c.in_ok-made.field-0.1
    c.system.ensures.file c.in_ok-judge_draft.ensures
    (ap (λ a. list_any (has_id (id_of a c.args.serial)) base.messages) (sym c.system.ensures.own) ∙ sym (c.in_ok-is_known.ensures.known honest base kept) ∙ c.if-branch.false)
    c.in_ok-made.ensures.key c.in_ok-made.ensures.message
