use Rattle.std.proofs.Common.{◌∙◌, ap, sym}
use Rattle.indexmap.specs.IndexMap.{values}
use Rattle.echo_filed.specs.Stored.{is_short_enough}
use Rattle.base_file.proofs.SavedMessages.{enough_more, stored_here, too_long_here}
use Rattle.base_file.proofs.base.saving.are_short_enough.Goals as goal

pub returns-then-not-branch : goal.returns-then-not-branch
returns-then-not-branch g c =
    let m = c.index-message.result.now in
    let here = ap is_short_enough (stored_here c.args.cursor c.messages.i m c.is_short-short.result c.is_short-short.ensures) in
    too_long_here c.args.cursor c.messages.i (values c.args.entries.now) m c.index-message.ensures
    (sym here ∙ sym c.in_ok-is_short_enough.ensures ∙ c.if-not-branch.true)

pub messages-preserved : goal.messages-preserved
messages-preserved g c =
    let m = c.index-message.result.now in
    let here = ap is_short_enough (stored_here c.args.cursor c.messages.i m c.is_short-short.result c.is_short-short.ensures) in
    enough_more c.args.cursor c.messages.i (values c.args.entries.now) m c.index-message.ensures c.messages.invariant
    (sym here ∙ sym c.in_ok-is_short_enough.ensures ∙ c.if-not-branch.false)
