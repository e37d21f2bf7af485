use Rattle.std.proofs.Common.{◌∙◌, ap}
use Rattle.echo_filed.specs.Stored.{has_tag, message_in}
use Rattle.base_file.specs.Loading.{has_wrong_field}
use Rattle.base_file.proofs.{ShortForms.found_short, Verdicts.found_right}
use Rattle.base_file.proofs.judging.sound_message.Goals as goal

pub has_wrong_form-requires : goal.has_wrong_form-requires
has_wrong_form-requires c tagged =
    let version = c.args.version in
    let s = c.args.stored in
    let found = found_right (has_wrong_field version s) (message_in version s, s.last) (c.in-Some.message, c.in-Some.last) _ c.in-Some.is c.in_ok-message.ensures in
    let same = c.has_tag-with_tag.ensures ∙ ap (λ x. has_tag version x.kind) c.stored.view_is in
    (found_short version s c.has_tag-with_tag.result (c.in-Some.message, c.in-Some.last) same tagged found).0
