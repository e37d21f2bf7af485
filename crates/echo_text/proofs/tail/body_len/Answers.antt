use Rattle.std.proofs.Common.{ap, sym, take, ◌∙◌, arith}
use Rattle.std.proofs.lemmas.List.{take_rest}
use Rattle.echo_text.specs.{Lines.first_line, Lines.lines, Tail.is_tail_line}
use Rattle.echo_text.proofs.LastLines.{Starts, all_is_tail, body_found, ends_at_end, ends_earlier, no_body, tail_found}
use Rattle.echo_text.proofs.tail.body_len.Goals as goal

pub ends-init : goal.ends-init
ends-init c = ends_at_end c.args.text.now

pub ends-preserved : goal.ends-preserved
ends-preserved c =
    let front = take c.ends.end c.args.text.now in
    let at = c.last_line_start-start.result in
    let said = c.last_line_start-start.ensures in
    let line = ap is_tail_line (sym (c.split_line.ensures.first ∙ ap (λ t. first_line (lines t)) (take_rest front at))) in
    ends_earlier c.args.text.now c.ends.end at c.ends.invariant (record { within = said.within; before = said.before; last = said.last })
    (line ∙ sym c.is_tail_line.ensures ∙ c.if-not-is_tail_line.false)

pub returns-then-not-is_tail_line : goal.returns-then-not-is_tail_line
returns-then-not-is_tail_line c =
    let front = take c.ends.end c.args.text.now in
    let at = c.last_line_start-start.result in
    let said = c.last_line_start-start.ensures in
    let line = ap is_tail_line (sym (c.split_line.ensures.first ∙ ap (λ t. first_line (lines t)) (take_rest front at))) ∙ sym c.is_tail_line.ensures ∙ c.if-not-is_tail_line.true in
    let starts : Starts front at = record { within = said.within; before = said.before; last = said.last } in
    record {
      body = body_found c.args.text.now c.ends.end at c.ends.invariant starts line;
      tail = tail_found c.args.text.now c.ends.end at c.ends.invariant starts line;
      within = c.ends.invariant.within;
    }

pub returns-clause-body : goal.returns-clause-body
returns-clause-body c = no_body c.args.text.now c.ends.end (omega arith) c.ends.invariant

pub returns-clause-tail : goal.returns-clause-tail
returns-clause-tail c = all_is_tail c.args.text.now c.ends.end (omega arith) c.ends.invariant
