use Rattle.{std.proofs.Common.{◌∙◌, arith}, echo_filed.specs.declared.key.Key.TheVariants.ById, model_run.specs.Orderly.origin}
use Rattle.cmd_why.proofs.Bringing.{sender-there}
use Rattle.cmd_why.proofs.carrying.sender_in.Goals as goal

pub returns : goal.returns
returns c = λ p fits is.
    let parts = c.in_ok-header.ensures p fits is in
    let some = c.if-times-eq0.false in
    sender-there (ById c.args.tag.now c.args.id.now) p c.origin.result c.deref.result.now c.in_ok-times.times (c.deref.ensures.value ∙ parts.1)
    (c.in_ok-times.ensures (origin p)) (omega (arith, some)) (c.origin.ensures p parts.0)
