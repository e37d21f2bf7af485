use Rattle.std.proofs.Common.{◌∙◌, ap, sym, arith, [], Err}
use Rattle.std.proofs.lemmas.Result.{err_from_is_err_and}
use Rattle.echo_packet.specs.{Header.word, Next.FailsInMessage, Next.NextFault}
use Rattle.echo_packet.proofs.NextNumber.{number-bytes, number-cut, number-inside, number-lost, then-inside, number-other, number-many, number-then, takes-whole}
use Rattle.echo_packet.proofs.FieldsSoFar.{at_exit, at_exit_if}
use Rattle.echo_packet.proofs.message.read_next.Goals as goal

pub returns-in_err-fixed_at-clause-fault : goal.returns-in_err-fixed_at-clause-fault
returns-in_err-fixed_at-clause-fault g c =
    let start = c.args.place.now in
    let p = err_from_is_err_and c.from_residual.result c.from_residual.ensures.1 in
    at_exit_if _ c.from_residual.result _ (NextFault c.args.limits c.args.given start) (p.1 ∙ ap Err p.2)
    (number-cut c.args.limits c.args.given start _ _ (omega arith) c.in_err-fixed_at.ensures.fault)

pub returns-then-given-limits-clause-fault : goal.returns-then-given-limits-clause-fault
returns-then-given-limits-clause-fault g c =
    number-many c.args.limits c.args.given c.args.place.now _ _ c.fixed_at.new.field (omega arith) (omega arith) c.in_ok-fixed_at.ensures.taken
    (sym c.number_at-number.ensures ∙ c.if-number-ne2.false) (omega arith)

pub returns-in_err-message-clause-fault : goal.returns-in_err-message-clause-fault
returns-in_err-message-clause-fault g c =
    let start = c.args.place.now in
    let behind = c.in_err-message.ensures.fails c.args.given start c.if-given-limits.false (omega (arith, c.in_ok-fixed_at.ensures.place)) in
    let p = err_from_is_err_and c.from_residual-in_err-message.result c.from_residual-in_err-message.ensures.1 in
    grind (arith, at_exit_if, number-then)

pub returns-in_err-fixed_at-clause-inside : goal.returns-in_err-fixed_at-clause-inside
returns-in_err-fixed_at-clause-inside g c = grind (arith, err_from_is_err_and c.from_residual.result c.from_residual.ensures.1, at_exit, number-inside)

pub returns-in_err-message-clause-inside : goal.returns-in_err-message-clause-inside
returns-in_err-message-clause-inside g c =
    let start = c.args.place.now in
    let behind = c.in_err-message.ensures.fails c.args.given start c.if-given-limits.false (omega (arith, c.in_ok-fixed_at.ensures.place)) in
    let p = err_from_is_err_and c.from_residual-in_err-message.result c.from_residual-in_err-message.ensures.1 in
    at_exit c.from_residual-in_err-message.result _ (FailsInMessage c.args.limits c.args.given start [] _ _) (p.1 ∙ ap Err p.2)
    (then-inside c.args.limits c.args.given start _ _ _ c.fixed_at.new.field _
    (number-bytes c.fixed_at.new.field c.fixed_at.ensures.bytes (omega arith) ∙ ap word (sym c.number_at-number.ensures ∙ c.if-number-ne2.false))
    c.in_ok-fixed_at.ensures.taken behind.inside)

pub returns-then-number-ne2-clause-inside : goal.returns-then-number-ne2-clause-inside
returns-then-number-ne2-clause-inside g c =
    number-lost c.args.limits c.args.given c.args.place.now _ _ c.fixed_at.new.field (omega arith) (omega arith) c.in_ok-fixed_at.ensures.taken

pub returns-then-given-limits-clause-inside : goal.returns-then-given-limits-clause-inside
returns-then-given-limits-clause-inside g c =
    number-lost c.args.limits c.args.given c.args.place.now _ _ c.fixed_at.new.field (omega arith) (omega arith) c.in_ok-fixed_at.ensures.taken

pub returns-then-number-ne2-clause-fault : goal.returns-then-number-ne2-clause-fault
returns-then-number-ne2-clause-fault g c =
    number-other c.args.limits c.args.given c.args.place.now _ _ c.fixed_at.new.field (omega arith) (omega arith) c.in_ok-fixed_at.ensures.taken
    (λ e. c.if-number-ne2.true (c.number_at-number.ensures ∙ e)) (λ e. c.if-number-eq0.false (c.number_at-number.ensures ∙ e))

pub returns-clause-taken : goal.returns-clause-taken
returns-clause-taken g c =
    takes-whole c.args.limits.text c.args.place.now c.read_fields.new.place _ _ _ c.fixed_at.new.field _ c.fixed_at.ensures.bytes (omega arith)
    c.in_ok-fixed_at.ensures.taken (sym c.number_at-number.ensures ∙ c.if-number-ne2.false)
    (c.in_ok-message.ensures.whole c.args.place.now (omega (arith, c.in_ok-fixed_at.ensures.place)))
