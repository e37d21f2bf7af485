use Rattle.std.proofs.Common.{◌∙◌, ap, drop, sym, Option, Some, arith}
use Rattle.model_run.specs.declared.event.Event.{Event, TheVariants.Post}
use Rattle.echo_net.{specs.Script.{draft_of, moment, posting_with, serial_in}, proofs.Words.{no_words, one_word, three_words, two_words}}
use Rattle.echo_net.proofs.script.posting.Goals as goal

pub returns-in_default : goal.returns-in_default
returns-in_default c = sym (no_words c.args.rest.now c.in_default.ensures.token)

pub returns-in_default-next_token : goal.returns-in_default-next_token
returns-in_default-next_token c = grind (arith, one_word)

pub returns-in_default-next_token-2 : goal.returns-in_default-next_token-2
returns-in_default-next_token-2 c = grind (arith, two_words)

pub returns-in_default-index : goal.returns-in_default-index
returns-in_default-index c =
    sym (three_words c.args.rest.now c.in-Some.first.now c.in-Some.after_first.now c.in-Some-next_token.tag.now c.in-Some-next_token.after_tag.now
    c.in-Some-next_token-2.digits.now c.in-Some-next_token-2.after_digits.now
    (record { words_are = c.in-Some.ensures.token; after = c.in-Some.ensures.after })
    (record { words_are = c.in-Some-next_token.ensures.token; after = c.in-Some-next_token.ensures.after })
    (record { words_are = c.in-Some-next_token-2.ensures.token; after = c.in-Some-next_token-2.ensures.after })
    ∙ ap (λ o. posting_with o c.in-Some-next_token.tag.now c.in-Some-next_token-2.digits.now (serial_in c.in-Some-next_token-2.digits.now) (drop 1 c.in-Some-next_token-2.after_digits.now))
    (sym c.index.ensures ∙ c.in_default-index.is))

pub returns-in_default-serial : goal.returns-in_default-serial
returns-in_default-serial c =
    sym (three_words c.args.rest.now c.in-Some.first.now c.in-Some.after_first.now c.in-Some-next_token.tag.now c.in-Some-next_token.after_tag.now
    c.in-Some-next_token-2.digits.now c.in-Some-next_token-2.after_digits.now
    (record { words_are = c.in-Some.ensures.token; after = c.in-Some.ensures.after })
    (record { words_are = c.in-Some-next_token.ensures.token; after = c.in-Some-next_token.ensures.after })
    (record { words_are = c.in-Some-next_token-2.ensures.token; after = c.in-Some-next_token-2.ensures.after })
    ∙ ap (λ o. posting_with o c.in-Some-next_token.tag.now c.in-Some-next_token-2.digits.now (serial_in c.in-Some-next_token-2.digits.now) (drop 1 c.in-Some-next_token-2.after_digits.now))
    (sym c.index.ensures ∙ c.in-Some-index.is)
    ∙ ap (λ o. posting_with (Some c.in-Some-index.system) c.in-Some-next_token.tag.now c.in-Some-next_token-2.digits.now o (drop 1 c.in-Some-next_token-2.after_digits.now))
    (sym c.serial.ensures ∙ c.in_default-serial.is))

pub returns : goal.returns
returns c =
    ap (λ t. let o : Option Event = Some (Post c.in-Some-index.system t c.in_ok-draft.field-0 c.in-Some-serial.serial moment) in o)
    (c.new.ensures ∙ c.in_ok-from_slice.ensures.items)
    ∙ ap (λ d. let o : Option Event = Some (Post c.in-Some-index.system c.in-Some-next_token.tag.now d c.in-Some-serial.serial moment) in o)
    (c.in_ok-draft.ensures ∙ ap (draft_of c.in-Some-next_token-2.digits.now) c.after_blank-body.ensures)
    ∙ sym (three_words c.args.rest.now c.in-Some.first.now c.in-Some.after_first.now c.in-Some-next_token.tag.now c.in-Some-next_token.after_tag.now
    c.in-Some-next_token-2.digits.now c.in-Some-next_token-2.after_digits.now
    (record { words_are = c.in-Some.ensures.token; after = c.in-Some.ensures.after })
    (record { words_are = c.in-Some-next_token.ensures.token; after = c.in-Some-next_token.ensures.after })
    (record { words_are = c.in-Some-next_token-2.ensures.token; after = c.in-Some-next_token-2.ensures.after })
    ∙ ap (λ o. posting_with o c.in-Some-next_token.tag.now c.in-Some-next_token-2.digits.now (serial_in c.in-Some-next_token-2.digits.now) (drop 1 c.in-Some-next_token-2.after_digits.now))
    (sym c.index.ensures ∙ c.in-Some-index.is)
    ∙ ap (λ o. posting_with (Some c.in-Some-index.system) c.in-Some-next_token.tag.now c.in-Some-next_token-2.digits.now o (drop 1 c.in-Some-next_token-2.after_digits.now))
    (sym c.serial.ensures ∙ c.in-Some-serial.is))
