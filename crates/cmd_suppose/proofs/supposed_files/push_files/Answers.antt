use Rattle.{std.proofs.{Common.{List, get_or, sym}, lemmas.List.get_or_default}, echo_addr.specs.declared.address.Address.Address}
use Rattle.{echo_links.specs.LinkLines.no_address, cmd_suppose.proofs.SupposedTexts.{next_added, none_added}}
use Rattle.cmd_suppose.proofs.supposed_files.push_files.Goals as goal

pub assumed-init : goal.assumed-init
assumed-init c = none_added c.args.listed c.args.files.now c.args.areas.tags.now c.args.texts.now.items

pub assumed-preserved : goal.assumed-preserved
assumed-preserved c =
    let assumed : List Address = c.args.assumed.now in
    let k = c.assumed.address-index in
    let a : Address = get_or assumed k no_address in
    next_added c.args.listed c.args.files.now c.args.areas.tags.now assumed k a _ c.args.texts.now.items c.assumed.texts.items c.push.new.self.items c.assumed-test.true
    (sym (get_or_default assumed k a no_address c.assumed-test.true)) c.assumed.invariant c.in_ok-file_text.ensures c.in_ok-push.ensures.items
