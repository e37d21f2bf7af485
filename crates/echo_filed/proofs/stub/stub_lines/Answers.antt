use Rattle.std.proofs.Common.{◌≡◌, ◌∙◌, ◌∷◌, [], List, ℕ, ap, subst, sym, arith}
use Rattle.std.proofs.lemmas.List.Elements.{All-head}
use Rattle.std.specs.{Prelude.option_copied, List.All}
use Rattle.echo_text.specs.{Lines.msgid_word, Echo.IsLine, Echo.msgid_of}
use Rattle.echo_filed.specs.{Filed.IsFiled, Filed.id_line, Stubs.stub_of}
use Rattle.echo_filed.proofs.{Left.copied_or, Left.left_line, Stubs.stub_filed}
use Rattle.echo_filed.proofs.stub.stub_lines.Goals as goal

pub lines_of_id-requires : goal.lines_of_id-requires
lines_of_id-requires c =
    let reported = c.msgid.ensures ∙ ap (λ m. msgid_of m.echo.kept) c.message.view_is in
    let same : id_line msgid_word c.unwrap_or.result.now ∷ [] ≡ (stub_of c.args.message.now).echo.kept =
    ap (λ r. id_line msgid_word r.now ∷ []) c.unwrap_or.ensures
    ∙ ap (λ id. id_line msgid_word id ∷ []) (copied_or c.msgid.result _)
    ∙ left_line c.args.message.now (option_copied c.msgid.result) reported c.requires in
    let stub = stub_filed c.args.message.now (subst IsFiled c.message.view_is c.message.invariant) in
    let P : List (List ℕ) → Type 0 = All IsLine in
    All-head IsLine (id_line msgid_word c.unwrap_or.result.now) [] (subst P (sym same) stub.is_echo.kept_lines)

pub returns : goal.returns
returns c = grind (arith, copied_or, left_line)
