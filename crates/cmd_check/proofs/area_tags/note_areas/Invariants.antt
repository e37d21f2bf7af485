-- The tags of the areas so far are added.
use Rattle.{std.proofs.Common.{Global, List, take, Vec, ℕ}, cmd_check.proofs.AreaTags.HaveTags}
use Rattle.cmd_check.proofs.area_tags.note_areas.Given as goal

abbrev pub invariant-areas : goal.invariant-areas
invariant-areas l =
    let bytes : Vec ℕ Global → List ℕ = λ key. key.items in
    HaveTags bytes l.initial.tags.keys (take l.k l.file.areas) l.tags.keys
