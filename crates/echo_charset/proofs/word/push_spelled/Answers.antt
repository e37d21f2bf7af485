use Rattle.echo_charset.proofs.Fronts.{spelled-more}
use Rattle.echo_charset.proofs.word.push_spelled.Goals as goal

pub loop-i-preserved : goal.loop-i-preserved
loop-i-preserved c = spelled-more c.args.word.now c.loop-i.i c.args.text.now.items c.loop-i.text.items c.push_spelled_at.new.text.items c.loop-i.invariant c.in_ok-push_spelled_at.ensures
