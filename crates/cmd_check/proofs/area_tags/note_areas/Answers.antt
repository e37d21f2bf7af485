use Rattle.std.proofs.Common.{◌+◌, arith, Global, List, subst, sym, take, take_all, Vec, ℕ}
use Rattle.cmd_check.proofs.{AreaTags.{HaveTags, tag_missed, tags_more, tags_of_file}, area_tags.note_areas.Goals.{in-Some+in_ok-note_tag, in_default}}
use Rattle.cmd_check.proofs.area_tags.note_areas.Goals as goal

pub areas-preserved : goal.areas-preserved
areas-preserved c =
    let bytes : Vec ℕ Global → List ℕ = λ key. key.items in
    let areas = c.args.file.now.areas in
    elim c.match-area.branch [
      | in-Some+in_ok-note_tag w ↦
          subst (λ tags. HaveTags bytes c.args.tags.now.keys (take (c.areas.k + 1) areas) tags.keys) (sym w.tags-is)
          (tags_more bytes c.args.tags.now.keys areas c.areas.k c.areas.tags.keys w.note_tag.new.tags.keys w.in-Some.tag.now
          (omega (arith, c.areas-test.true, c.areas-k-end.ensures)) w.in-Some.ensures c.areas.invariant w.in_ok-note_tag.ensures)
      | in_default w ↦ absurd (tag_missed bytes c.args.tags.now.keys areas c.areas.k (omega (arith, c.areas-test.true, c.areas-k-end.ensures)) (rw w.in_default.is at c.area.ensures))
    ]

pub returns : goal.returns
returns c = grind (arith, tags_of_file, take_all)
