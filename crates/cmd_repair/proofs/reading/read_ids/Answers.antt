use Rattle.std.{proofs.{Common.{List, ◌∙◌, ◌++◌, ◌≡◌, ap, arith, inr, length, map, refl, sym, ℕ}, lemmas.Bool.eqb-true}, specs.List.list_any}
use Rattle.{std.specs.Prelude.bytes_eq, echo_links.specs.LinkLines.file_lines, cmd_repair.specs.{IdList.{missing_line, stage_after}, Words.area_words}}
use Rattle.cmd_repair.proofs.{Readings.{goes_on, missing_there, read_whole, words_more, words_whole}, RightLists.right_given}
use Rattle.cmd_repair.proofs.reading.read_ids.Goals as goal

pub lines-preserved : goal.lines-preserved
lines-preserved c =
    let area = c.args.area.now in
    let line = c.split_line.result.0.now in
    let after = c.split_line.result.1.now in
    record {
      right =
          goes_on area c.args.bytes.now c.lines.rest.now line after c.lines.number c.lines.stage c.in_ok-stage.stage c.lines.invariant.right c.split_line.ensures.lines
          (c.in_ok-stage.ensures area (c.deref.ensures.value ∙ c.in_ok-push_area.ensures ∙ ap (λ (l : List ℕ). l ++ area_words area) c.new-first.ensures.items)
          ∙ ap (λ (n : ℕ). stage_after area n c.lines.stage line) c.saturating_sub-ids.ensures)
          c.in_ok-number.number (let is = c.in_ok-number.ensures.ok_part in grind arith) (sym c.is_wrong.ensures ∙ c.if-is_wrong.false);
      words =
          words_more c.lines.rest.now line after (map (λ word. word.now) c.lines.words.items) (map (λ word. word.now) c.take_word.new.words.items) _
          c.split_line.ensures.lines c.lines.invariant.words c.in_ok-take_word.ensures;
    }

pub returns-in-Ended : goal.returns-in-Ended
returns-in-Ended c =
    let none : length c.lines.rest.now ≡ 0 = eqb-true (length c.lines.rest.now) 0 (sym c.lines-test.ensures) in
    record {
      right =
          right_given c.args.area.now (file_lines c.args.bytes.now)
          (read_whole c.args.area.now c.args.bytes.now c.lines.rest.now c.lines.number c.lines.stage c.lines.invariant.right none ∙ ap (missing_line c.lines.number) c.in-Ended.is);
      members = λ word. c.of.ensures word ∙ ap (list_any (bytes_eq word)) (words_whole c.lines.rest.now _ _ c.lines.invariant.words none);
    }

pub returns : goal.returns
returns c =
    let none : length c.lines.rest.now ≡ 0 = eqb-true (length c.lines.rest.now) 0 (sym c.lines-test.ensures) in
    inr (
      c.lines.number,
      read_whole c.args.area.now c.args.bytes.now c.lines.rest.now c.lines.number c.lines.stage c.lines.invariant.right none ∙ missing_there c.lines.number c.lines.stage c.in_default.not-Ended,
      refl,
    )
