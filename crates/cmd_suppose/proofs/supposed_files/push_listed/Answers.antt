use Rattle.{std.proofs.Common.{◌∙◌, sym}, cmd_suppose.{specs.Listings.is_listed, proofs.Zips.{kept_one, lost_one}}}
use Rattle.cmd_suppose.proofs.supposed_files.push_listed.Goals as goal

pub returns-in_ok-push : goal.returns-in_ok-push
returns-in_ok-push c = λ files tag listing.
    kept_one (is_listed files tag) c.args.address c.args.here.now.items c.push.new.self.items (sym (c.has.ensures files tag listing) ∙ c.if-has.true) c.in_ok-push.ensures.items

pub returns-else-has : goal.returns-else-has
returns-else-has c = λ files tag listing.
    lost_one (is_listed files tag) c.args.address c.args.here.now.items (sym (c.has.ensures files tag listing) ∙ c.if-has.false)
