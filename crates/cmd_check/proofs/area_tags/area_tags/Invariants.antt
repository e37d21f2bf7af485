-- The tags of the files so far are added.
use Rattle.{std.{proofs.Common.{◌≡◌, Global, List, take, Vec, ℕ}, specs.List.list_any}, echo_links.specs.Links.has_area, cmd_check.specs.AreaTags.has_tag}
use Rattle.cmd_check.proofs.area_tags.area_tags.Given as goal

abbrev pub invariant-files : goal.invariant-files
invariant-files l =
    let bytes : Vec ℕ Global → List ℕ = λ key. key.items in
    (tag : List ℕ) → has_tag bytes l.tags.keys tag ≡ list_any (λ file. has_area file tag) (take l.file-index l.files)
