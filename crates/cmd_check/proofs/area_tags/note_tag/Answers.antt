use Rattle.{std.proofs.Common.{◌∙◌, ap, Global, List, Vec, ℕ}, cmd_check.{specs.AreaTags.has_tag, proofs.AreaTags.tag_inserted}}
use Rattle.cmd_check.proofs.area_tags.note_tag.Goals as goal

pub returns : goal.returns
returns c = λ other.
    let bytes : Vec ℕ Global → List ℕ = λ k. k.items in
    ap (λ keys. has_tag bytes keys other) c.in_ok-insert.ensures.keys
    ∙ tag_inserted bytes c.args.tags.now.keys c.in_ok-from_slice.field-0 c.args.tag.now other c.in_ok-from_slice.ensures.items
