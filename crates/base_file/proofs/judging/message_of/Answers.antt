use Rattle.std.proofs.Common.{◌≡◌, ◌∙◌, false, ap, subst, sym, arith}
use Rattle.echo_filed.specs.Stored.{IsStored, Stored}
use Rattle.base_file.specs.BaseFile.{has_wrong_string}
use Rattle.base_file.proofs.Verdicts.{last_said, message_is, message_made}
use Rattle.base_file.proofs.judging.message_of.Goals as goal

pub invariant_of-message : goal.invariant_of-message
invariant_of-message c =
    let i = c.stored.inside in
    let s : Stored = record { kind = i.kind; zone = i.sender.zone; net = i.sender.net; node = i.sender.node; date = i.date; to_name = i.to_name; from_name = i.from_name; subject = i.subject; tag = i.tag; last = i.last } in
    let version = c.args.version in
    let strings : has_wrong_string s ≡ false = ap has_wrong_string c.stored.view_is ∙ c.requires.strings in
    let reported = last_said version s c.has_tag-with_tag.result c.as_slice.result.now _ c.in-Some.echo c.has_tag-with_tag.ensures c.as_slice.ensures c.in-Some.is c.in_ok-echo.ensures in
    message_made version s c.sender_in-sender.result c.in-Some.echo (subst (IsStored version) (sym c.stored.view_is) c.requires.sizes) strings c.sender_in-sender.ensures reported

pub returns : goal.returns
returns c = grind (arith, last_said, message_is)
