use Rattle.{std.proofs.Common.{◌∙◌, ap, sym}, echo_filed.specs.Filed.Filed, echo_text.specs.Echo.{EchoText, msgid_of}, cmd_why.proofs.Judged.is_posted}
use Rattle.cmd_why.proofs.copies.is_posting.Goals as goal

pub returns-in-None : goal.returns-in-None
returns-in-None c =
    let view = c.message.view_is in
    let tag_is = c.as_slice.ensures ∙ ap (λ (e : EchoText). e.tag) c.echo.view_is ∙ ap (λ (f : Filed). f.echo.tag) view in
    let id_is = c.msgid.ensures ∙ ap (λ (f : Filed). msgid_of f.echo.kept) view in
    λ yes. is_posted c.args.message.now c.args.tag.now c.args.id.now _ _ (sym (ap (λ (f : Filed). f.sender) view) ∙ c.in-None.is) tag_is id_is (sym c.is_of.ensures ∙ yes)
