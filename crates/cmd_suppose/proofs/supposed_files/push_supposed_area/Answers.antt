use Rattle.{std.proofs.Common.{◌∙◌, sym}, cmd_suppose.proofs.SupposedTexts.{no_line, one_line}}
use Rattle.cmd_suppose.proofs.supposed_files.push_supposed_area.Goals as goal

pub returns-in_ok-push_area : goal.returns-in_ok-push_area
returns-in_ok-push_area c =
    one_line c.args.listed c.args.files.now c.args.address c.args.tag.now c.args.listing.now c.in_ok-links.links.items c.args.text.now.items c.push_area.new.text.items
    (sym c.has_supposed.ensures ∙ c.if-has_supposed.true) c.requires c.in_ok-links.ensures.ascending c.in_ok-links.ensures.members
    (rw c.deref.ensures.value at c.in_ok-push_area.ensures)

pub returns-else-has_supposed : goal.returns-else-has_supposed
returns-else-has_supposed c =
    no_line c.args.listed c.args.files.now c.args.address c.args.tag.now c.args.text.now.items (sym c.has_supposed.ensures ∙ c.if-has_supposed.false)
