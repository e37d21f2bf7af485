use Rattle.std.proofs.Common.{◌∙◌, ◌==◌, ◌&&◌, ◌∷◌, [], length, ap, sym, Some, None}
use Rattle.std.specs.{Prelude.bytes_eq, Prelude.option_copied, Cmp.Lexicographic.pointwise}
use Rattle.echo_text.specs.{Lines.msgid_word, Echo.msgid_of}
use Rattle.echo_filed.specs.Filed.{id_line}
use Rattle.echo_filed.proofs.Left.{is_stub_reported}
use Rattle.echo_filed.proofs.stub.is_stub.Goals as goal

pub returns-in-None : goal.returns-in-None
returns-in-None c =
    let reported = ap option_copied (sym c.in-None.is) ∙ c.msgid.ensures ∙ ap (λ m. msgid_of m.echo.kept) c.message.view_is in
    sym (is_stub_reported c.args.message.now None reported)

pub returns-in-Some : goal.returns-in-Some
returns-in-Some c =
    let reported = ap option_copied (sym c.in-Some.is) ∙ c.msgid.ensures ∙ ap (λ m. msgid_of m.echo.kept) c.message.view_is in
    let kept = ap (λ e. e.kept) c.echo.view_is ∙ ap (λ m. m.echo.kept) c.message.view_is in
    let seen = c.as_slice.ensures ∙ ap (λ e. e.seen) c.echo.view_is ∙ ap (λ m. m.echo.seen) c.message.view_is in
    let path = c.as_slice-in-Some.ensures ∙ ap (λ e. e.path) c.echo.view_is ∙ ap (λ m. m.echo.path) c.message.view_is in
    c.is_bare.ensures
    ∙ (λ i. pointwise bytes_eq (kept i) (id_line msgid_word c.in-Some.id.now ∷ []) && ((length (seen i) == 0) && (length (path i) == 0)))
    ∙ sym (is_stub_reported c.args.message.now (Some c.in-Some.id.now) reported)
