use Rattle.std.proofs.Common.{◌≡◌, ℕ, List, subst, ◌∙◌, Some, arith}
use Rattle.echo_text.{specs.Echo.EchoOf, proofs.SaidAfter.front_accepted}
use Rattle.model_steps.{specs.Tossing.received, proofs.Kept.received_filed}
use Rattle.echo_steps.proofs.Tossed.{made_received}
use Rattle.echo_steps.proofs.receiving.received.Goals as goal

pub into_echo-requires-clause-front : goal.into_echo-requires-clause-front
into_echo-requires-clause-front c = grind arith

made : (c : goal.After-result-1) → record {
  sender = Some c.args.sender;
  date = c.date.result.now;
  to_name = c.in_ok-to_name.to_name;
  from_name = c.in_ok-from_name.from_name;
  subject = c.in_ok-subject.subject;
  echo = c.in_ok-echo.echo;
} ≡ received c.args.sender c.args.packed.now
made c =
    let P : List ℕ → Type 0 = λ t. EchoOf t c.in_ok-echo.echo c.in_ok-echo.field-0-1 in
    made_received c.args.sender c.args.packed.now _ _ _ _ _ c.date.ensures (c.in_ok-to_name.ensures ∙ c.to_name.ensures) (c.in_ok-from_name.ensures ∙ c.from_name.ensures)
    (c.in_ok-subject.ensures ∙ c.subject.ensures) (_, subst P c.text-text.ensures.text c.in_ok-echo.ensures)

pub invariant_of-result : goal.invariant_of-result
invariant_of-result c = grind (arith, made, received_filed, front_accepted)

pub returns : goal.returns
returns c = made c
