use Rattle.std.proofs.Common.{sym, ◌∙◌}
use Rattle.echo_addr.proofs.Outcomes.{outcome_ok, outcome-written}
use Rattle.echo_addr.proofs.address.Address.parse.Goals as goal

pub returns-clause-ok : goal.returns-clause-ok
returns-clause-ok c = λ a.
    (λ e. outcome_ok c.args.bytes.now a (sym c.judged.ensures ∙ e), λ w. c.judged.ensures ∙ outcome-written c.args.bytes.now a w)
