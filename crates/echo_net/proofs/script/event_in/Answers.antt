use Rattle.std.proofs.Common.{◌≡◌, ◌∙◌, IfOk, Option, subst, sym}
use Rattle.echo_addr.specs.Entries.{tokens}
use Rattle.model_run.specs.declared.event.Event.{Event}
use Rattle.echo_net.proofs.Words.{control_event, first_deliver, first_other, first_post, first_purge, first_scan, worded_event, wordless_event}
use Rattle.echo_net.proofs.script.event_in.Goals as goal

pub returns-then-has_control_byte : goal.returns-then-has_control_byte
returns-then-has_control_byte c = sym (control_event c.args.line.now (sym c.has_control_byte.ensures ∙ c.if-has_control_byte.true))

pub returns-in_default : goal.returns-in_default
returns-in_default c = sym (wordless_event c.args.line.now (sym c.has_control_byte.ensures ∙ c.if-has_control_byte.false) c.in_default.ensures.token)

pub returns-then-eq : goal.returns-then-eq
returns-then-eq c =
    subst (λ (o : Option Event). IfOk c.posting.result (λ event. event ≡ o))
    (sym (worded_event c.args.line.now c.in-Some.word.now c.in-Some.rest.now (sym c.has_control_byte.ensures ∙ c.if-has_control_byte.false)
    (record { words_are = c.in-Some.ensures.token; after = c.in-Some.ensures.after })
    ∙ first_post c.in-Some.word.now c.in-Some.rest.now (tokens c.in-Some.rest.now) (sym c.eq.ensures ∙ c.if-eq.true)))
    c.posting.ensures

pub returns-then-eq-2 : goal.returns-then-eq-2
returns-then-eq-2 c =
    c.scan.ensures
    ∙ sym (worded_event c.args.line.now c.in-Some.word.now c.in-Some.rest.now (sym c.has_control_byte.ensures ∙ c.if-has_control_byte.false)
    (record { words_are = c.in-Some.ensures.token; after = c.in-Some.ensures.after })
    ∙ first_scan c.in-Some.word.now c.in-Some.rest.now (tokens c.in-Some.rest.now) (sym c.eq.ensures ∙ c.if-eq.false)
    (sym c.eq-else-eq.ensures ∙ c.if-eq-2.true))

pub returns-then-eq-3 : goal.returns-then-eq-3
returns-then-eq-3 c =
    c.delivery.ensures
    ∙ sym (worded_event c.args.line.now c.in-Some.word.now c.in-Some.rest.now (sym c.has_control_byte.ensures ∙ c.if-has_control_byte.false)
    (record { words_are = c.in-Some.ensures.token; after = c.in-Some.ensures.after })
    ∙ first_deliver c.in-Some.word.now c.in-Some.rest.now (tokens c.in-Some.rest.now) (sym c.eq.ensures ∙ c.if-eq.false)
    (sym c.eq-else-eq.ensures ∙ c.if-eq-2.false) (sym c.eq-else-eq-2.ensures ∙ c.if-eq-3.true))

pub returns-then-eq-4 : goal.returns-then-eq-4
returns-then-eq-4 c =
    c.purge.ensures
    ∙ sym (worded_event c.args.line.now c.in-Some.word.now c.in-Some.rest.now (sym c.has_control_byte.ensures ∙ c.if-has_control_byte.false)
    (record { words_are = c.in-Some.ensures.token; after = c.in-Some.ensures.after })
    ∙ first_purge c.in-Some.word.now c.in-Some.rest.now (tokens c.in-Some.rest.now) (sym c.eq.ensures ∙ c.if-eq.false)
    (sym c.eq-else-eq.ensures ∙ c.if-eq-2.false) (sym c.eq-else-eq-2.ensures ∙ c.if-eq-3.false) (sym c.eq-else-eq-3.ensures ∙ c.if-eq-4.true))

pub returns-else-eq-4 : goal.returns-else-eq-4
returns-else-eq-4 c =
    sym (worded_event c.args.line.now c.in-Some.word.now c.in-Some.rest.now (sym c.has_control_byte.ensures ∙ c.if-has_control_byte.false)
    (record { words_are = c.in-Some.ensures.token; after = c.in-Some.ensures.after })
    ∙ first_other c.in-Some.word.now c.in-Some.rest.now (tokens c.in-Some.rest.now) (sym c.eq.ensures ∙ c.if-eq.false)
    (sym c.eq-else-eq.ensures ∙ c.if-eq-2.false) (sym c.eq-else-eq-2.ensures ∙ c.if-eq-3.false) (sym c.eq-else-eq-3.ensures ∙ c.if-eq-4.false))
