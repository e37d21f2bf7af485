use Rattle.{std.{proofs.Common.arith, specs.Option.option_copied}, cmd_suppose.{specs.Listings.IsListing, proofs.Zips.zip_read}}
use Rattle.cmd_check.{specs.JudgedAreas.{IsAreaJudged, JudgedNet, judged_net}, proofs.AllAreas.{next_area, none_checked}}
use Rattle.cmd_check.proofs.supposed_areas.push_areas.Goals as goal

pub areas-init : goal.areas-init
areas-init c = (
  λ given are. none_checked
      (IsAreaJudged (judged_net given c.args.net.whole.now c.args.net.left.now c.args.net.assumed.now c.args.net.out.now) (option_copied c.args.judging.list) c.args.judging.more c.args.judging.listed)
      c.args.lines.now.items,
  omega arith,
)

pub bounds-listings-place : goal.bounds-listings-place
bounds-listings-place c = omega (arith, c.areas-test.true, c.requires)

pub areas-preserved : goal.areas-preserved
areas-preserved c =
    let within = c.areas.invariant.1 in
    let small = c.in_ok-one.ensures.small in (
      λ given are.
          let net : JudgedNet = judged_net given c.args.net.whole.now c.args.net.left.now c.args.net.assumed.now c.args.net.out.now in
          let listing = zip_read (IsListing given) c.args.areas.tags.now c.args.areas.listings.now c.areas.place c.index-tags-place.result c.as_slice-tag.result.now c.index-listings-place.result
          are (omega (arith, c.areas-test.true)) c.index-tags-place.is c.as_slice-tag.ensures c.index-listings-place.is in
          next_area (IsAreaJudged net (option_copied c.args.judging.list) c.args.judging.more c.args.judging.listed) c.args.areas.tags.now c.areas.place c.index-tags-place.result c.as_slice-tag.result.now
          c.areas.noes c.in_ok-one.one c.args.lines.now.items c.areas.lines.items c.push_area.new.lines.items (omega (arith, c.areas-test.true)) c.index-tags-place.is c.as_slice-tag.ensures
          (c.areas.invariant.0 given are) (c.in_ok-one.ensures.lines given listing),
      omega (arith, within, small),
    )
