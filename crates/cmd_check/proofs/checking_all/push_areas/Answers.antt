use Rattle.std.{proofs.Common.{arith, Global, List, Vec, ℕ}, specs.Option.option_copied}
use Rattle.cmd_check.{specs.CheckingAll.IsAreaChecked, proofs.AllAreas.{none_checked, one_more}}
use Rattle.cmd_check.proofs.checking_all.push_areas.Goals as goal

pub tags-init : goal.tags-init
tags-init c = (none_checked (IsAreaChecked c.args.links.now (option_copied c.args.list) c.args.more) c.args.lines.now.items, omega arith)

pub tags-preserved : goal.tags-preserved
tags-preserved c =
    let bytes : Vec ℕ Global → List ℕ = λ tag. tag.items in
    let within = c.tags.invariant.1 in
    let small = c.in_ok-one.ensures.small in (
      one_more (IsAreaChecked c.args.links.now (option_copied c.args.list) c.args.more) bytes c.args.tags.now c.tags.tag-index c.tag-item.result c.deref.result.now c.tags.noes c.in_ok-one.one
          c.args.lines.now.items c.tags.lines.items c.push_area.new.lines.items c.tags-test.true c.tag-item.is c.deref.ensures.value c.tags.invariant.0 c.in_ok-one.ensures.lines,
      omega (arith, within, small),
    )
