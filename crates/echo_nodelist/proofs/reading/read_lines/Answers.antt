use Rattle.std.proofs.{Common.{◌≡◌, ◌+◌, [], ◌∷◌, length, sym, ap, ◌∙◌, subst, arith}, lemmas.{List.length-append, Bool.eqb-true}}
use Rattle.echo_nodelist.proofs.OneMoreLine.{Done, done_all, done_more}
use Rattle.echo_nodelist.proofs.reading.read_lines.Goals as goal

pub lines-preserved : goal.lines-preserved
lines-preserved c =
    let count : c.len-number.result + 1 ≡ length c.lines.reading.lines.items + 1 = omega (arith, c.len-number.ensures) in
    let more =
    done_more c.args.text.now c.lines.rest.now c.split_line.result.0.now c.split_line.result.1.now c.lines.reading.lines.items c.in_ok-line.line
    (c.len-number.result + 1) c.lines.invariant.done c.split_line.ensures.lines count c.in_ok-line.ensures c.in_ok-push.ensures.good
    in
    record {
      done = subst (λ ls. Done c.args.text.now ls c.split_line.result.1.now) (sym c.in_ok-push.ensures.lines) more;
      in_step = c.in_ok-push.ensures.step;
      room =
          omega (arith, ap length c.in_ok-push.ensures.lines, length-append c.lines.reading.lines.items (c.in_ok-line.line ∷ []), c.split_line.ensures.shorter, c.lines.invariant.room);
    }

pub returns : goal.returns
returns c = (
  done_all c.args.text.now c.lines.rest.now c.lines.reading.lines.items c.lines.invariant.done
      (eqb-true (length c.lines.rest.now) 0 (sym c.is_empty.ensures ∙ c.lines-test.false)),
  c.lines.invariant.in_step,
)
