use Rattle.std.proofs.Common.{sym, ◌∙◌, refl, arith}
use Rattle.echo_addr.proofs.NextToken.{next_after, next_none, next_some}
use Rattle.echo_addr.proofs.listing.next_token.Goals as goal

pub returns-in_err-begun-clause-token : goal.returns-in_err-begun-clause-token
returns-in_err-begun-clause-token c = grind (arith, next_none)

pub returns-clause-token : goal.returns-clause-token
returns-clause-token c =
    next_some c.args.bytes.now _ c.split_at.result.0.now c.split_at.result.1.now c.first_blank.result c.in_ok-begun.field-0 c.unwrap_or-end.result
    (sym c.first_other.ensures ∙ c.in_ok-begun.was) refl c.first_blank.ensures c.unwrap_or-end.ensures c.split_at.ensures.front c.split_at.ensures.back

pub returns-clause-after : goal.returns-clause-after
returns-clause-after c =
    next_after c.args.bytes.now _ c.split_at.result.0.now c.split_at.result.1.now c.first_blank.result c.in_ok-begun.field-0 c.unwrap_or-end.result
    (sym c.first_other.ensures ∙ c.in_ok-begun.was) refl c.first_blank.ensures c.unwrap_or-end.ensures c.split_at.ensures.front c.split_at.ensures.back
