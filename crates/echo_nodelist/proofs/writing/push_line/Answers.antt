use Rattle.std.proofs.Common.{◌++◌, ap, ◌∙◌}
use Rattle.echo_nodelist.proofs.LineBytes.{OnOk-map, commas, entry_written}
use Rattle.echo_nodelist.proofs.writing.push_line.Goals as goal

pub returns-in_ok-push_number-in-Entry : goal.returns-in_ok-push_number-in-Entry
returns-in_ok-push_number-in-Entry c =
    OnOk-map c.push_fields.result
    (λ fields. entry_written c.args.line.now c.in-Entry.keyword c.in-Entry.number c.in-Entry.fields c.args.text.now.items
    c.extend_from_slice-in-Entry.new.self.items c.push.new.self.items c.push_number.new.text.items c.push_fields.new.text.items c.in-Entry.is
    (c.in_ok-extend_from_slice-in-Entry.ensures.items ∙ ap (λ t. c.args.text.now.items ++ t) c.text.ensures) c.in_ok-push-in-Entry.ensures.items
    c.in_ok-push_number-in-Entry.ensures (fields ∙ ap (λ fs. c.push_number.new.text.items ++ commas fs) c.as_slice-in-Entry.ensures))
    c.push_fields.ensures
