use Rattle.{std.{proofs.Common.{◌∙◌, ap, Global, List, take_all, Vec, ℕ}, specs.List.list_any}, echo_links.specs.Links.has_area}
use Rattle.cmd_check.proofs.AreaTags.{all_tags_if_ok}
use Rattle.cmd_check.proofs.area_tags.area_tags.Goals as goal

pub returns : goal.returns
returns c =
    let bytes : Vec ℕ Global → List ℕ = λ key. key.items in
    let files = c.args.files.now in
    all_tags_if_ok bytes (λ tags. tags.items) files c.files.tags.keys c.in_order.result
    (λ tag. c.files.invariant tag ∙ ap (list_any (λ file. has_area file tag)) (take_all c.files.file-index files c.files-test.false))
    c.in_order.ensures.ascending c.in_order.ensures.same
