use Rattle.std.proofs.{Common.◌∙◌, Common.ap, lemmas.Bool.or_parts}
use Rattle.echo_filed.specs.Stored.{has_tag, message_in}
use Rattle.base_file.specs.{BaseFile.has_wrong_form, Loading.has_wrong_field, Loading.is_wrong}
use Rattle.base_file.proofs.{ShortForms.found_short, Verdicts.found_right}
use Rattle.base_file.proofs.judging.judged.Goals as goal

pub key_of-requires : goal.key_of-requires
key_of-requires c tagged =
    let version = c.args.version in
    let s = c.args.stored in
    let wrong = is_wrong version c.args.cursor c.args.place s in
    let found = found_right wrong (message_in version s, s.last) (c.in-Some.message, c.in-Some.last) _ c.in-Some.is c.in_ok-message.ensures in
    let right = (or_parts (has_wrong_field version s) (has_wrong_form version c.args.cursor c.args.place s) found.0).0 in
    let same = c.has_tag-with_tag.ensures ∙ ap (λ x. has_tag version x.kind) c.stored.view_is in
    (found_short version s c.has_tag-with_tag.result (c.in-Some.message, c.in-Some.last) same tagged (right, found.1)).1
