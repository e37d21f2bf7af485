use Rattle.std.proofs.Common.{◌≡◌, ◌≢◌, ◌<◌, ◌++◌, ℕ, List, None, length, take, sym, ap, ◌∙◌, arith}
use Rattle.std.proofs.lemmas.Bool.{eqb-true, eqb-false}
use Rattle.echo_addr.specs.ShortLines.{entries_text}
use Rattle.echo_addr.proofs.LineEntries.{front_stays, line_ended}
use Rattle.echo_addr.proofs.Runs.{Completes-more, Completes-all}
use Rattle.echo_addr.proofs.shortening.push_lines.Goals as goal

pub runs-preserved : goal.runs-preserved
runs-preserved c =
    let run = c.write_run-count.ensures in
    let count : ℕ = c.write_run-count.result.0 in
    let end : ℕ = c.write_run-count.result.1 in
    let begun : ℕ = length c.args.prefix.now in
    let line : List ℕ = c.write_run-count.new.line in
    let text : List ℕ = entries_text None (take count c.runs.rest.now) in
    let more : length c.runs.rest.now ≢ 0 = eqb-false _ _ (sym c.is_empty.ensures ∙ c.runs-test.true) in
    let some : 0 < length c.runs.rest.now = omega arith in
    let front : List ℕ = take begun c.runs.line in
    record {
      completes = Completes-more c.args.prefix.now c.args.entries.now c.runs.rest.now c.split_at.result.1.now c.args.text.now.items c.runs.text.items
          c.push_ended.new.text.items count c.split_at.ensures.back (run.some some) run.within (omega (arith, run.end, run.room)) run.full
          (c.in_ok-push_ended.ensures.text
          ∙ ap (λ (t : List ℕ). c.runs.text.items ++ t) (line_ended line front c.args.prefix.now text end run.written c.runs.invariant.front))
          c.runs.invariant.completes;
      front = front_stays c.runs.line c.push_ended.new.line text begun end (omega (arith, run.end)) (omega arith) (c.push_ended.ensures.line ∙ run.written)
          ∙ c.runs.invariant.front;
    }

pub returns : goal.returns
returns c =
    let empty : length c.runs.rest.now ≡ 0 = eqb-true _ _ (sym c.is_empty.ensures ∙ c.runs-test.false) in
    Completes-all c.args.prefix.now c.args.entries.now c.runs.rest.now c.args.text.now.items c.runs.text.items empty c.runs.invariant.completes
