use Rattle.std.proofs.Common.{◌≡◌, ◌∙◌, ap, subst, sym, Some, None}
use Rattle.std.specs.Prelude.{IfOk, option_copied}
use Rattle.echo_text.specs.Echo.{msgid_of}
use Rattle.echo_filed.specs.{declared.key.Key.Key, declared.key.Key.TheVariants.ByContent, declared.key.Key.TheVariants.ById, Filed.key_of}
use Rattle.echo_filed.proofs.Keys.{key_reported}
use Rattle.echo_filed.proofs.key.Key.of_message.Goals as goal

pub returns-in-Some : goal.returns-in-Some
returns-in-Some c =
    let m = c.args.message.now in
    let reported = ap option_copied (sym c.in-Some.is) ∙ c.msgid.ensures ∙ ap (λ x. msgid_of x.echo.kept) c.message.view_is in
    let tag = c.as_slice-tag.ensures ∙ ap (λ x. x.echo.tag) c.message-inside.view_is ∙ ap (λ x. x.echo.tag) c.message.view_is in
    let same : ById c.as_slice-tag.result.now c.in-Some.msgid.now ≡ key_of m = ap (λ t. ById t c.in-Some.msgid.now) tag ∙ key_reported m (Some c.in-Some.msgid.now) reported in
    let P : Key → Type 0 = λ k. IfOk c.by_id.result (λ key. key ≡ k) in
    subst P same c.by_id.ensures

pub returns : goal.returns
returns c =
    let m = c.args.message.now in
    let reported = ap option_copied (sym c.in_default.is) ∙ c.msgid.ensures ∙ ap (λ x. msgid_of x.echo.kept) c.message.view_is in
    let tag = c.as_slice-tag.ensures ∙ ap (λ x. x.echo.tag) c.message-inside.view_is ∙ ap (λ x. x.echo.tag) c.message.view_is in
    let date = ap (λ x. x.date) c.message-inside.view_is ∙ ap (λ x. x.date) c.message.view_is in
    let to_name = c.as_slice-to_name.ensures ∙ ap (λ x. x.to_name) c.message-inside.view_is ∙ ap (λ x. x.to_name) c.message.view_is in
    let from_name = c.as_slice-from_name.ensures ∙ ap (λ x. x.from_name) c.message-inside.view_is ∙ ap (λ x. x.from_name) c.message.view_is in
    let subject = c.as_slice-subject.ensures ∙ ap (λ x. x.subject) c.message-inside.view_is ∙ ap (λ x. x.subject) c.message.view_is in
    let kept = c.in_ok-kept.ensures ∙ ap (λ x. x.echo.kept) c.message-inside.view_is ∙ ap (λ x. x.echo.kept) c.message.view_is in
    let P : Key → Type 0 = λ k. IfOk c.by_content.result (λ key. key ≡ k) in
    subst P ((λ i. ByContent (tag i) (date i) (to_name i) (from_name i) (subject i) (kept i)) ∙ key_reported m None reported) c.by_content.ensures
