use Rattle.std.proofs.Common.{◌++◌, ◌∙◌, sym}
use Rattle.echo_jam.specs.Subfields.{control_line}
use Rattle.echo_jam.proofs.{Searches.no_more, Searches.one_more, Searches.too_short, subfields.controls_of.Goals.then-fields-test+else-rest-ge8, subfields.controls_of.Goals.else-fields-test}
use Rattle.echo_jam.proofs.subfields.controls_of.Goals as goal

pub fields-preserved : goal.fields-preserved
fields-preserved c =
    let lines = c.fields.lines.items in
    rw c.behind_field-rest.ensures
    (one_more c.fields.most c.fields.rest.now lines c.push_control.new.lines.items c.fields-test.true c.if-rest-ge8.true
    (c.in_ok-push_control.ensures ∙ (λ i. lines ++ control_line (c.field_kind.ensures i) (c.field_content.ensures i)))
    ∙ c.fields.invariant)

pub returns : goal.returns
returns c = elim c.fields-test.branch [
  | then-fields-test+else-rest-ge8 w ↦ sym (too_short c.fields.most c.fields.rest.now c.fields.lines.items w.if-rest-ge8.false) ∙ c.fields.invariant
  | else-fields-test w ↦ sym (no_more c.fields.most c.fields.rest.now c.fields.lines.items w.fields-test.false) ∙ c.fields.invariant
]
