use Rattle.std.proofs.Common.{◌∙◌}
use Rattle.echo_verdict.proofs.Drawings.{is_drawing}
use Rattle.echo_verdict.proofs.drawing.draw.Goals as goal

pub returns : goal.returns
returns c =
    let carriers = c.in_ok-carriers.carriers.items in
    let links = c.in_ok-listed.listed.items in
    let rounds = rw c.loop_of.ensures at c.in_ok-round.ensures.members in
    let stepped = rw c.loop_of-2.ensures at c.in_ok-steps.ensures.members in
    let members = rw (c.deref.ensures.value, c.deref-2.ensures.value) at c.in_ok-addresses.ensures.members in
    let pairs_members = rw c.deref-3.ensures.value at c.in_ok-pairs.ensures.members in
    let systems = c.new.ensures ∙ (rw (c.deref-4.ensures.value, c.deref-5.ensures.value, c.deref-6.ensures.value, c.deref-7.ensures.value) at c.in_ok-systems.ensures) in
    let drawn = c.new-2.ensures ∙ (rw (c.deref-8.ensures.value, c.deref-9.ensures.value, c.deref-10.ensures.value) at c.in_ok-links.ensures) in
    is_drawing c.args.files.now c.args.tag.now c.args.verdict.now carriers c.in_ok-round.round.items links c.in_ok-steps.steps.items
    c.in_ok-carriers.ensures.members c.in_ok-listed.ensures.members rounds stepped c.in_ok-addresses.addresses.items c.in_ok-named.named.items c.in_ok-pairs.pairs.items _
    c.in_ok-addresses.ensures.ascending members c.in_ok-pairs.ensures.ascending pairs_members c.in_ok-named.ensures systems drawn
