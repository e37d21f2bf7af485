use Rattle.std.proofs.{Common.{◌≡◌, ◌-◌, length, take, drop, sym, ◌∙◌}, lemmas.{List.take_rest, Slice.Eq.bytes_eq-Decides}}
use Rattle.echo_text.specs.Lines.{area_word}
use Rattle.base_folder_store.proofs.Plain.{plain_tag}
use Rattle.base_folder_store.proofs.front.is_area_line.Goals as goal

pub returns-then-eq : goal.returns-then-eq
returns-then-eq c = λ yes.
    let line = c.args.line.now in
    let tag = c.args.tag.now in
    let front : take 5 line ≡ area_word = (bytes_eq-Decides (take 5 line) area_word).0 (sym c.eq.ensures ∙ c.if-eq.true) in
    let rest : take (length line - 5) (drop 5 line) ≡ tag = (bytes_eq-Decides (take (length line - 5) (drop 5 line)) tag).0 (sym c.eq-then-eq.ensures ∙ yes) in
    plain_tag line tag (sym c.if-not-is_kept_tag.ensures) front (sym (take_rest line 5) ∙ rest)
