use Rattle.std.proofs.Common.{◌∙◌}
use Rattle.echo_charset.proofs.{Fronts.hidden-more, Fronts.shown-more, word.are_shown.Goals.then-all, word.are_shown.Goals.else-all}
use Rattle.echo_charset.proofs.word.are_shown.Goals as goal

pub loop-i-preserved : goal.loop-i-preserved
loop-i-preserved c =
    elim c.if-all.branch [
      | then-all w ↦ shown-more c.args.word.now c.loop-i.i c.loop-i.all c.if-all.all c.loop-i.invariant w.if-all.true (w.all-is ∙ w.is_shown-all.ensures)
      | else-all w ↦ hidden-more c.args.word.now c.loop-i.i c.loop-i.all c.if-all.all c.loop-i.invariant w.if-all.false w.all-is
    ]
