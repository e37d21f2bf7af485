use Rattle.std.{proofs.{Common.{◌+◌, ◌++◌, ◌∙◌, [], Option, ap, append-nil, arith, drop, get_or, refl, ℕ}, lemmas.List.drop_all}, specs.List.cons_option}
use Rattle.cmd_repair.{specs.{Ids.unescaped, declared.words.Escape.Escape}, proofs.Unescaped.read-on}
use Rattle.cmd_repair.proofs.words.unescape.Goals as goal

pub bytes-preserved : goal.bytes-preserved
bytes-preserved c =
    let word = c.args.word.now in
    let id = c.bytes.id.items in
    let k = c.bytes.byte-index in
    ap (λ (s : Escape). c.push_ended.new.id.items ++ unescaped s (drop (k + 1) word)) c.next_escape-escape.ensures
    ∙ read-on word id c.push_ended.new.id.items k c.bytes.escape (get_or word k 0) (omega (arith, c.bytes-test.true, c.bytes.auto.byte-index-end)) refl c.bytes.invariant
    (c.in_ok-push_ended.ensures ∙ ap (λ (o : Option ℕ). id ++ cons_option o []) c.ended_byte.ensures)

pub returns : goal.returns
returns c = grind (arith, drop_all, append-nil)
