use Rattle.std.proofs.Common.{◌≡◌, ◌∙◌, true, ap, sym, arith}
use Rattle.std.proofs.lemmas.List.Elements.{All-head}
use Rattle.echo_text.specs.Lines.{is_tag}
use Rattle.base_file.proofs.Verdicts.{bare_made}
use Rattle.base_file.proofs.judging.bare.Goals as goal

pub invariant_of-result : goal.invariant_of-result
invariant_of-result c =
    let right : is_tag c.args.tag ≡ true = ap is_tag (sym c.as_slice.ensures) ∙ sym c.is_kept_tag.ensures ∙ c.if-not-is_kept_tag.false in
    bare_made c.args.tag c.args.id.now c.in_ok-kept.kept c.new.result c.new-2.result right (sym c.is_wrong_id.ensures ∙ c.if-is_wrong_id.false)
    c.in_ok-kept.ensures (c.new.ensures ∙ c.clear.ensures.items) (c.new-2.ensures ∙ c.clear-2.ensures.items)

pub lines_of_id-requires : goal.lines_of_id-requires
lines_of_id-requires c = grind (arith, bare_made, All-head)
