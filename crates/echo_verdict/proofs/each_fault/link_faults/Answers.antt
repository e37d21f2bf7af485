use Rattle.echo_verdict.proofs.AllFaults.{all_of}
use Rattle.echo_verdict.proofs.each_fault.link_faults.Goals as goal

pub returns : goal.returns
returns c =
    let shared = rw (c.deref.ensures.value, c.in_ok-systems.ensures) at c.in_ok-push_two_files.ensures in
    all_of c.args.files.now c.args.tag.now c.args.carriers.now c.args.links.now c.requires.members c.requires.listed c.requires.links
    c.new-all.result.items c.push_no_such_area.new.all.items c.push_two_files.new.all.items c.push_link_faults.new.all.items c.new-all.ensures.items c.in_ok-push_no_such_area.ensures shared c.in_ok-push_link_faults.ensures
