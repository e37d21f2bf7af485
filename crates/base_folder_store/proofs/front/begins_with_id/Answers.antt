use Rattle.std.proofs.{Common.{◌≡◌, ◌<◌, List, ℕ, length, take, drop, sym, ap, ◌∙◌, arith}, lemmas.{Bool.eqb-false, List.take_rest, Slice.Eq.bytes_eq-Decides}}
use Rattle.echo_text.specs.{Echo.msgid_of, Lines.lines, Lines.msgid_word, Lines.trimmed, Tail.kept_of}
use Rattle.base_folder_store.proofs.Plain.{plain_id}
use Rattle.base_folder_store.proofs.front.begins_with_id.Goals as goal

pub returns-then-eq : goal.returns-then-eq
returns-then-eq c = λ yes.
    let line = c.split_line.result.0.now in
    let id = c.args.msgid.now in
    let front : take 7 line ≡ msgid_word = (bytes_eq-Decides (take 7 line) msgid_word).0 (sym c.eq.ensures ∙ c.if-eq.true) in
    let same : c.trimmed.result.now ≡ id = (bytes_eq-Decides c.trimmed.result.now id).0 (sym c.eq-then-eq.ensures ∙ yes) in
    let is : trimmed (drop 7 line) ≡ id = ap trimmed (sym (take_rest line 7)) ∙ sym c.trimmed.ensures ∙ same in
    let room = c.split_line.ensures.room in
    let long = c.if-line-lt7.false in
    let there : 0 < length c.args.rest.now = omega (arith, room, long) in
    let byte : length id ≡ 0 → ⊥ = eqb-false (length id) 0 (sym c.is_empty.ensures ∙ c.if-is_empty.false) in
    let some : 0 < length id = omega (arith, byte) in
    ap (λ (l : List (List ℕ)). msgid_of (kept_of l)) (c.split_line.ensures.both there) ∙ plain_id line id (lines c.split_line.result.1.now) front is some
