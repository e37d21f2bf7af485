use Rattle.std.{proofs.Common.{◌++◌, ◌∷◌, [], ap, ◌∙◌, refl}, specs.List.slice_split}
use Rattle.echo_nodelist.{specs.Raw.is_comma, proofs.Pieces.{fields_all, fields_more}}
use Rattle.echo_nodelist.proofs.line.fields_of.Goals as goal

pub fields-preserved : goal.fields-preserved
fields-preserved c =
    ap (λ fields. fields ++ slice_split is_comma c.in-Some.after.now) (c.in_ok-push.ensures.items ∙ ap (λ f. c.fields.fields.items ++ f ∷ []) (c.new.ensures ∙ c.in_ok-from_slice.ensures.items))
    ∙ fields_more c.fields.fields.items (slice_split is_comma c.args.text.now) c.in-Some.field.now c.fields.rest.now c.in-Some.after.now c.fields.invariant
    c.in-Some.ensures.found c.in-Some.ensures.before c.in-Some.ensures.after

pub returns : goal.returns
returns c =
    (c.in_ok-push-2.ensures.items ∙ ap (λ f. c.fields.fields.items ++ f ∷ []) (c.new-2.ensures ∙ c.in_ok-from_slice-2.ensures.items))
    ∙ fields_all c.fields.fields.items (slice_split is_comma c.args.text.now) c.fields.rest.now c.fields.invariant (c.in_default.ensures.none refl)
