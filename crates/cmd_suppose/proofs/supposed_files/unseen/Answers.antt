use Rattle.{std.proofs.Common.{◌∙◌, sym}, cmd_suppose.proofs.SupposedTexts.{none_unseen, not_so, were_unseen}}
use Rattle.cmd_suppose.proofs.supposed_files.unseen.Goals as goal

pub returns-in_ok-unseen : goal.returns-in_ok-unseen
returns-in_ok-unseen c =
    were_unseen c.args.files.now c.args.tag.now c.args.out.now c.args.assumed.now c.in_ok-unseen.unseen.items c.put_in_order.new.values.items
    (sym c.is_carried.ensures ∙ c.if-is_carried.true) c.in_ok-unseen.ensures c.put_in_order.ensures.ascending c.put_in_order.ensures.members

pub returns-else-is_carried : goal.returns-else-is_carried
returns-else-is_carried c =
    none_unseen c.args.files.now c.args.tag.now c.args.out.now c.args.assumed.now c.new.result.items
    (not_so _ (sym c.is_carried.ensures ∙ c.if-is_carried.false)) c.new.ensures.items
