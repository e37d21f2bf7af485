use Rattle.std.proofs.Common.{sym, ◌∙◌}
use Rattle.echo_steps.proofs.SameWay.{same_list}
use Rattle.echo_steps.proofs.ways.same_entries.Goals as goal

pub returns : goal.returns
returns c = λ yes. same_list c.args.one.now c.args.other.now (sym c.eq.ensures ∙ yes)
