use Rattle.std.proofs.Common.{sym, ◌∙◌}
use Rattle.std.proofs.lemmas.Slice.Eq.{bytes_eq-Decides}
use Rattle.echo_steps.proofs.ways.same_bytes.Goals as goal

pub returns : goal.returns
returns c = λ yes. (bytes_eq-Decides c.args.one.now c.args.other.now).0 (sym c.eq.ensures ∙ yes)
