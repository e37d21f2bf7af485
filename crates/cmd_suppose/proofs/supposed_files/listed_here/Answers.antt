use Rattle.{std.proofs.{Common.{List, get_or, sym}, lemmas.List.get_or_default}, echo_addr.specs.declared.address.Address.Address}
use Rattle.{echo_links.specs.LinkLines.no_address, cmd_suppose.{specs.Listings.is_listed, proofs.Zips.kept_next}}
use Rattle.cmd_suppose.proofs.supposed_files.listed_here.Goals as goal

pub assumed-preserved : goal.assumed-preserved
assumed-preserved c = λ files tag listing.
    let assumed : List Address = c.args.assumed.now in
    let k = c.assumed.address-index in
    let a : Address = get_or assumed k no_address in
    kept_next (is_listed files tag) assumed k a c.assumed.here.items c.push_listed.new.here.items c.assumed-test.true (sym (get_or_default assumed k a no_address c.assumed-test.true))
    (c.assumed.invariant files tag listing) (c.in_ok-push_listed.ensures files tag listing)
