use Rattle.std.proofs.Common.{◌≡◌, ◌∙◌, length, ap, arith, Err}
use Rattle.std.proofs.lemmas.Result.{err_from_is_err_and}
use Rattle.echo_packet.specs.Message.{Numbers, DateTime, ToName, FromName, Subject, Text, max_name, max_subject}
use Rattle.echo_packet.specs.{Fault.IsTooLong, Field.IsShort, Field.IsOpen, Field.IsPast, Field.Never, Next.FailsBehind}
use Rattle.echo_packet.proofs.FieldsSoFar.{has-none, has-numbers, has-date, has-to_name, has-from_name, has-subject, has-text, field-fails, made_of, at_exit, tells-numbers, tells-date, tells-to_name, tells-from_name, tells-subject, tells-text}
use Rattle.echo_packet.proofs.message.read_fields.Goals as goal

pub returns-in_err-fixed_at-clause-fails : goal.returns-in_err-fixed_at-clause-fails
returns-in_err-fixed_at-clause-fails g c = λ given start more here.
    let wrong = field-fails c.args.limits given start _ _ _ _ Numbers _ (IsShort 12) Never Never Never Never _ (has-none c.args.limits.text start c.args.place.now (g.R.Read.remaining c.args.reader.now) here) (tells-numbers c.args.limits) more
    c.in_err-fixed_at.ensures.fault c.in_err-fixed_at.ensures.inside in
    let p = err_from_is_err_and c.from_residual.result c.from_residual.ensures.1 in
    at_exit c.from_residual.result _ (FailsBehind c.args.limits given start _ _) (p.1 ∙ ap Err p.2) wrong

pub returns-in_err-fixed_at-2-clause-fails : goal.returns-in_err-fixed_at-2-clause-fails
returns-in_err-fixed_at-2-clause-fails g c = λ given start more here.
    let a = has-numbers c.args.limits.text start c.args.place.now c.fixed_at.new.place _ _ c.fixed_at.new.field here c.fixed_at.ensures.bytes (omega arith)
    c.in_ok-fixed_at.ensures.taken c.in_ok-fixed_at.ensures.place in
    let wrong = field-fails c.args.limits given start _ _ _ _ DateTime _ (IsShort 20) Never Never Never Never _ a (tells-date c.args.limits) more
    c.in_err-fixed_at-2.ensures.fault c.in_err-fixed_at-2.ensures.inside in
    let p = err_from_is_err_and c.from_residual-in_err-fixed_at-2.result c.from_residual-in_err-fixed_at-2.ensures.1 in
    at_exit c.from_residual-in_err-fixed_at-2.result _ (FailsBehind c.args.limits given start _ _) (p.1 ∙ ap Err p.2) wrong

pub returns-in_err-to_name-clause-fails : goal.returns-in_err-to_name-clause-fails
returns-in_err-to_name-clause-fails g c = λ given start more here.
    let date_size : length c.fixed_at-2.new.field ≡ 20 = omega arith in
    let a = has-numbers c.args.limits.text start c.args.place.now c.fixed_at.new.place _ _ c.fixed_at.new.field here c.fixed_at.ensures.bytes (omega arith)
    c.in_ok-fixed_at.ensures.taken c.in_ok-fixed_at.ensures.place in
    let b = has-date c.args.limits.text start _ c.fixed_at-2.new.place _ _ _ _ c.fixed_at-2.new.field a c.fixed_at-2.ensures.bytes date_size
    c.in_ok-fixed_at-2.ensures.taken c.in_ok-fixed_at-2.ensures.place in
    let wrong = field-fails c.args.limits given start _ _ _ _ ToName _ (IsOpen max_name) (IsTooLong max_name) Never (IsPast max_name) Never _ b (tells-to_name c.args.limits) more
    c.in_err-to_name.ensures.fault c.in_err-to_name.ensures.inside in
    let p = err_from_is_err_and c.from_residual-in_err-to_name.result c.from_residual-in_err-to_name.ensures.1 in
    at_exit c.from_residual-in_err-to_name.result _ (FailsBehind c.args.limits given start _ _) (p.1 ∙ ap Err p.2) wrong

pub returns-in_err-from_name-clause-fails : goal.returns-in_err-from_name-clause-fails
returns-in_err-from_name-clause-fails g c = λ given start more here.
    let date_size : length c.fixed_at-2.new.field ≡ 20 = omega arith in
    let a = has-numbers c.args.limits.text start c.args.place.now c.fixed_at.new.place _ _ c.fixed_at.new.field here c.fixed_at.ensures.bytes (omega arith)
    c.in_ok-fixed_at.ensures.taken c.in_ok-fixed_at.ensures.place in
    let b = has-date c.args.limits.text start _ c.fixed_at-2.new.place _ _ _ _ c.fixed_at-2.new.field a c.fixed_at-2.ensures.bytes date_size
    c.in_ok-fixed_at-2.ensures.taken c.in_ok-fixed_at-2.ensures.place in
    let d = has-to_name c.args.limits.text start _ c.string_at.new.place _ _ _ _ c.in_ok-to_name.to_name.items b
    c.in_ok-to_name.ensures.found c.in_ok-to_name.ensures.taken c.in_ok-to_name.ensures.place in
    let wrong = field-fails c.args.limits given start _ _ _ _ FromName _ (IsOpen max_name) (IsTooLong max_name) Never (IsPast max_name) Never _ d (tells-from_name c.args.limits) more
    c.in_err-from_name.ensures.fault c.in_err-from_name.ensures.inside in
    let p = err_from_is_err_and c.from_residual-in_err-from_name.result c.from_residual-in_err-from_name.ensures.1 in
    at_exit c.from_residual-in_err-from_name.result _ (FailsBehind c.args.limits given start _ _) (p.1 ∙ ap Err p.2) wrong

pub returns-in_err-subject-clause-fails : goal.returns-in_err-subject-clause-fails
returns-in_err-subject-clause-fails g c = λ given start more here.
    let date_size : length c.fixed_at-2.new.field ≡ 20 = omega arith in
    let a = has-numbers c.args.limits.text start c.args.place.now c.fixed_at.new.place _ _ c.fixed_at.new.field here c.fixed_at.ensures.bytes (omega arith)
    c.in_ok-fixed_at.ensures.taken c.in_ok-fixed_at.ensures.place in
    let b = has-date c.args.limits.text start _ c.fixed_at-2.new.place _ _ _ _ c.fixed_at-2.new.field a c.fixed_at-2.ensures.bytes date_size
    c.in_ok-fixed_at-2.ensures.taken c.in_ok-fixed_at-2.ensures.place in
    let d = has-to_name c.args.limits.text start _ c.string_at.new.place _ _ _ _ c.in_ok-to_name.to_name.items b
    c.in_ok-to_name.ensures.found c.in_ok-to_name.ensures.taken c.in_ok-to_name.ensures.place in
    let e = has-from_name c.args.limits.text start _ c.string_at-2.new.place _ _ _ _ c.in_ok-from_name.from_name.items d
    c.in_ok-from_name.ensures.found c.in_ok-from_name.ensures.taken c.in_ok-from_name.ensures.place in
    let wrong = field-fails c.args.limits given start _ _ _ _ Subject _ (IsOpen max_subject) (IsTooLong max_subject) Never (IsPast max_subject) Never _ e (tells-subject c.args.limits) more
    c.in_err-subject.ensures.fault c.in_err-subject.ensures.inside in
    let p = err_from_is_err_and c.from_residual-in_err-subject.result c.from_residual-in_err-subject.ensures.1 in
    at_exit c.from_residual-in_err-subject.result _ (FailsBehind c.args.limits given start _ _) (p.1 ∙ ap Err p.2) wrong

pub returns-in_err-text-clause-fails : goal.returns-in_err-text-clause-fails
returns-in_err-text-clause-fails g c = λ given start more here.
    let date_size : length c.fixed_at-2.new.field ≡ 20 = omega arith in
    let a = has-numbers c.args.limits.text start c.args.place.now c.fixed_at.new.place _ _ c.fixed_at.new.field here c.fixed_at.ensures.bytes (omega arith)
    c.in_ok-fixed_at.ensures.taken c.in_ok-fixed_at.ensures.place in
    let b = has-date c.args.limits.text start _ c.fixed_at-2.new.place _ _ _ _ c.fixed_at-2.new.field a c.fixed_at-2.ensures.bytes date_size
    c.in_ok-fixed_at-2.ensures.taken c.in_ok-fixed_at-2.ensures.place in
    let d = has-to_name c.args.limits.text start _ c.string_at.new.place _ _ _ _ c.in_ok-to_name.to_name.items b
    c.in_ok-to_name.ensures.found c.in_ok-to_name.ensures.taken c.in_ok-to_name.ensures.place in
    let e = has-from_name c.args.limits.text start _ c.string_at-2.new.place _ _ _ _ c.in_ok-from_name.from_name.items d
    c.in_ok-from_name.ensures.found c.in_ok-from_name.ensures.taken c.in_ok-from_name.ensures.place in
    let f = has-subject c.args.limits.text start _ c.string_at-3.new.place _ _ _ _ c.in_ok-subject.subject.items e
    c.in_ok-subject.ensures.found c.in_ok-subject.ensures.taken c.in_ok-subject.ensures.place in
    let wrong = field-fails c.args.limits given start _ _ _ _ Text _ (IsOpen c.args.limits.text) Never (IsTooLong c.args.limits.text) Never (IsPast c.args.limits.text) _ f (tells-text c.args.limits) more
    c.in_err-text.ensures.fault c.in_err-text.ensures.inside in
    let p = err_from_is_err_and c.from_residual-in_err-text.result c.from_residual-in_err-text.ensures.1 in
    at_exit c.from_residual-in_err-text.result _ (FailsBehind c.args.limits given start _ _) (p.1 ∙ ap Err p.2) wrong

pub returns-clause-whole : goal.returns-clause-whole
returns-clause-whole g c = λ start here.
    let date_size : length c.fixed_at-2.new.field ≡ 20 = omega arith in
    let a = has-numbers c.args.limits.text start c.args.place.now c.fixed_at.new.place _ _ c.fixed_at.new.field here c.fixed_at.ensures.bytes (omega arith)
    c.in_ok-fixed_at.ensures.taken c.in_ok-fixed_at.ensures.place in
    let b = has-date c.args.limits.text start _ c.fixed_at-2.new.place _ _ _ _ c.fixed_at-2.new.field a c.fixed_at-2.ensures.bytes date_size
    c.in_ok-fixed_at-2.ensures.taken c.in_ok-fixed_at-2.ensures.place in
    let d = has-to_name c.args.limits.text start _ c.string_at.new.place _ _ _ _ c.in_ok-to_name.to_name.items b
    c.in_ok-to_name.ensures.found c.in_ok-to_name.ensures.taken c.in_ok-to_name.ensures.place in
    let e = has-from_name c.args.limits.text start _ c.string_at-2.new.place _ _ _ _ c.in_ok-from_name.from_name.items d
    c.in_ok-from_name.ensures.found c.in_ok-from_name.ensures.taken c.in_ok-from_name.ensures.place in
    let f = has-subject c.args.limits.text start _ c.string_at-3.new.place _ _ _ _ c.in_ok-subject.subject.items e
    c.in_ok-subject.ensures.found c.in_ok-subject.ensures.taken c.in_ok-subject.ensures.place in
    let all = has-text c.args.limits.text start _ c.string_at-4.new.place _ _ _ _ c.in_ok-text.text.items f
    c.in_ok-text.ensures.found c.in_ok-text.ensures.taken c.in_ok-text.ensures.place in
    grind (arith, made_of)
