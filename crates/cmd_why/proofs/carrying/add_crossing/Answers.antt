use Rattle.{std.proofs.Common.{◌∙◌, sym, ap, List, ◌++◌, append-nil}, echo_filed.specs.declared.key.Key.TheVariants.ById}
use Rattle.{echo_verdict.specs.declared.drawing.Crossing.Crossing, cmd_why.proofs.Bringing.{crossing-none, crossing-there}}
use Rattle.cmd_why.proofs.carrying.add_crossing.Goals as goal

pub returns-in_ok-push : goal.returns-in_ok-push
returns-in_ok-push c = λ run is p at.
    let for = sym (c.is_for.ensures run is p at) ∙ c.if-not-is_for.false in
    let found = sym c.in-Some.is ∙ c.in_ok-found.ensures run is p at in
    c.in_ok-push.ensures.items
    ∙ ap (λ (t : List Crossing). c.args.all.now.items ++ t)
    (crossing-there c.args.counts.now c.args.harmed.to c.in-Some.from (ById c.args.harmed.tag.now c.args.harmed.id.now) c.args.k c.step_of-step.result p for c.step_of-step.ensures found)

pub returns-in_default : goal.returns-in_default
returns-in_default c = λ run is p at.
    let none = c.in_default.is in
    let found = sym none ∙ c.in_ok-found.ensures run is p at in
    sym (append-nil c.args.all.now.items)
    ∙ ap (λ (t : List Crossing). c.args.all.now.items ++ t) (sym (crossing-none c.args.counts.now c.args.harmed.to (ById c.args.harmed.tag.now c.args.harmed.id.now) c.args.k p found))
