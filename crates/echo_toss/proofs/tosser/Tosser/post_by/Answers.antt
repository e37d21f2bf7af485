use Rattle.std.proofs.{Common.{◌≡◌, ◌∙◌, refl, subst, sym, ap}, lemmas.Result.err_from_is_err_and}
use Rattle.base_file.specs.Base.{Base}
use Rattle.model_steps.specs.SystemState.{SystemState}
use Rattle.echo_steps.{specs.PacketsIn.state_in, proofs.Replies.same_refusal}
use Rattle.echo_toss.{specs.Steps.PostStep, proofs.Postings.{refused_draft, refused_memory, refused_serial}}
use Rattle.echo_toss.proofs.tosser.Tosser.post_by.Goals.{in-Ok, in-Err-Refused, in-Err-Store}
use Rattle.echo_toss.proofs.tosser.Tosser.post_by.Goals as goal

pub returns-in_err-judge_draft : goal.returns-in_err-judge_draft
returns-in_err-judge_draft g c =
    let file = c.self.inside.links in
    let base = c.self.inside.store.base in
    let p = err_from_is_err_and c.from_residual.result c.from_residual.ensures.1 in
    let P : SystemState → Type 0 = λ s. PostStep c.args.rule s c.args.tag.now c.args.draft.now c.args.serial c.args.stamp c.from_residual.result s in
    subst P c.self.view_is (rw (p.1, p.2) (
      refused_draft c.args.rule file base.messages c.args.tag.now c.args.draft.now c.args.serial c.args.stamp c.in_err-judge_draft.field-0.0 c.in_err-judge_draft.ensures,
      refl,
    ))

pub returns : goal.returns
returns g c =
    let file = c.self.inside.links in
    let base = c.self.inside.store.base in
    let state : Base → SystemState = state_in file in
    let passes = c.in_ok-judge_draft.ensures in
    let same = same_refusal c.args.rule file base.messages c.args.tag.now c.args.draft.now c.args.serial c.args.stamp passes in
    let P : SystemState → Type 0 = λ s. PostStep c.args.rule s c.args.tag.now c.args.draft.now c.args.serial c.args.stamp c.match-post_step.result (state c.post_step.new.store.base) in
    subst P c.self.view_is (elim c.match-post_step.branch [
      | in-Ok w ↦ rw w.result-is (same ∙ w.in-Ok.ensures.allowed tt base refl, sym (ap state (w.in-Ok.ensures.filed tt base refl)))
      | in-Err-Refused w ↦
          let stop = rw w.in-Err-Refused.field-0-is at w.in-Err-Refused.ensures.stop tt base refl in
          let looks = rw w.in-Err-Refused.field-0-is at w.in-Err-Refused.ensures.looks in
          rw w.result-is (
            refused_serial c.args.rule file base.messages c.args.tag.now c.args.draft.now c.args.serial c.args.stamp w.in-Err-Refused.refusal passes stop,
            sym (ap state (looks.keeps base refl)),
          )
      | in-Err-Store w ↦
          let stop = rw w.in-Err-Store.field-0-is at w.in-Err-Store.ensures.stop tt base refl in
          rw w.result-is (
            refused_memory c.args.rule file base.messages c.args.tag.now c.args.draft.now c.args.serial c.args.stamp passes stop,
            sym (ap state (w.in-Err-Store.ensures.ends.undone tt tt base refl)),
          )
    ])
