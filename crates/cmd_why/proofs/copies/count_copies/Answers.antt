use Rattle.{std.proofs.Common.{◌≡◌, ◌+◌, ◌∙◌, refl, sym, Bool, true, false, cond, arith, take}, echo_addr.specs.declared.address.Address.Address}
use Rattle.{echo_filed.specs.declared.key.Key.TheVariants.ById, cmd_why.proofs.Counting.{total, total-more}}
use Rattle.cmd_why.proofs.copies.count_copies.Goals.{then-branch, else-branch}
use Rattle.cmd_why.proofs.copies.count_copies.Goals as goal

pub messages-preserved : goal.messages-preserved
messages-preserved c =
    let before = c.messages.invariant in
    let more : (b : Bool) → c.in_ok-is_copy.field-0 ≡ b → (sender : Address) →
    total sender (ById c.args.tag.now c.args.id.now) (take (c.messages.packed-index + 1) c.args.messages.now)
    ≡ total sender (ById c.args.tag.now c.args.id.now) (take c.messages.packed-index c.args.messages.now) + cond b 1 0 =
    λ b is sender. total-more sender (ById c.args.tag.now c.args.id.now) c.messages.packed-index (c.messages.packed-index + 1) c.packed-item.result c.args.messages.now b
    c.messages-test.true c.packed-item.is refl (sym is ∙ c.in_ok-is_copy.ensures sender) in
    elim c.if-branch.branch [
      | then-branch w ↦ record {
        few = let few = before.few in omega (arith, few, w.count-is);
        counted = λ sender. let counted = before.counted sender in let step = more true w.if-branch.true sender in omega (arith, counted, step, w.count-is);
      }
      | else-branch w ↦ record {
        few = let few = before.few in omega (arith, few, w.count-is);
        counted = λ sender. let counted = before.counted sender in let step = more false w.if-branch.false sender in omega (arith, counted, step, w.count-is);
      }
    ]
