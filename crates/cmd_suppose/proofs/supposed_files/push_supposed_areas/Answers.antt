use Rattle.{std.proofs.Common.arith, cmd_suppose.{specs.Listings.IsListing, proofs.{SupposedTexts.{lines_begun, lines_next}, Zips.{zip_length, zip_read}}}}
use Rattle.cmd_suppose.proofs.supposed_files.push_supposed_areas.Goals as goal

pub areas-init : goal.areas-init
areas-init c = lines_begun c.args.listed c.args.files.now c.args.address c.args.text.now.items

pub bounds-listings-place : goal.bounds-listings-place
bounds-listings-place c =
    let e = zip_length (IsListing c.args.files.now) c.args.areas.tags.now c.args.areas.listings.now c.requires in omega (arith, e, c.areas-test.true)

pub push_supposed_area-requires : goal.push_supposed_area-requires
push_supposed_area-requires c =
    zip_read (IsListing c.args.files.now) c.args.areas.tags.now c.args.areas.listings.now c.areas.place c.index-tags-place.result c.as_slice-tag.result.now c.index-listings-place.result
    c.requires (omega (arith, c.areas-test.true)) c.index-tags-place.is c.as_slice-tag.ensures c.index-listings-place.is

pub areas-preserved : goal.areas-preserved
areas-preserved c =
    lines_next c.args.listed c.args.files.now c.args.address c.args.areas.tags.now c.areas.place c.index-tags-place.result c.as_slice-tag.result.now
    c.args.text.now.items c.areas.text.items c.push_supposed_area.new.text.items (omega (arith, c.areas-test.true)) c.index-tags-place.is c.as_slice-tag.ensures
    c.areas.invariant c.in_ok-push_supposed_area.ensures
