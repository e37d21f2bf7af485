use Rattle.std.proofs.Common.{◌∙◌, ap, Some, sym}
use Rattle.echo_jam.proofs.Searches.{found_here, found_later, found_none, none_left}
use Rattle.echo_jam.proofs.subfields.first_field.Goals.{then-fields-test+else-rest-ge8, else-fields-test}
use Rattle.echo_jam.proofs.subfields.first_field.Goals as goal

pub returns-then-field_kind-kind : goal.returns-then-field_kind-kind
returns-then-field_kind-kind c =
    ap Some c.field_content.ensures
    ∙ sym (found_here c.args.kind c.fields.rest.now c.fields.most c.field_kind.result c.fields-test.true c.if-rest-ge8.true c.field_kind.ensures c.if-field_kind-kind.true)
    ∙ c.fields.invariant

pub fields-preserved : goal.fields-preserved
fields-preserved c =
    rw c.behind_field-rest.ensures
    (sym (found_later c.args.kind c.fields.rest.now c.fields.most c.field_kind.result c.fields-test.true c.if-rest-ge8.true c.field_kind.ensures c.if-field_kind-kind.false)
    ∙ c.fields.invariant)

pub returns : goal.returns
returns c = elim c.fields-test.branch [
  | then-fields-test+else-rest-ge8 w ↦ sym (found_none c.args.kind c.fields.rest.now c.fields.most w.if-rest-ge8.false) ∙ c.fields.invariant
  | else-fields-test w ↦ sym (none_left c.args.kind c.fields.most c.fields.rest.now w.fields-test.false) ∙ c.fields.invariant
]
