use Rattle.{std.proofs.Common.{List, refl}, echo_addr.specs.declared.address.Address.Address, echo_verdict.specs.declared.link.Link.Link}
use Rattle.cmd_suppose.{specs.Parts.{AreBothWays, linked_both}, proofs.Groups.{both_held, ends_carry, labels_below, parts_grouped}}
use Rattle.cmd_suppose.proofs.parts.all_parts.Goals as goal

pub grouped-requires-clause-same_length : goal.grouped-requires-clause-same_length
grouped-requires-clause-same_length c =
    let both : List Link = c.in_ok-both.both.items in
    let links : List Link = c.in_ok-links.links.items in
    let ways : AreBothWays (linked_both c.args.files.now c.args.tag.now) both =
    both_held c.args.files.now c.args.tag.now links both c.in_ok-links.ensures.members (rw c.deref.ensures.value at c.in_ok-both.ensures) in
    let found = rw (c.deref-2.ensures.value, c.deref-3.ensures.value) at c.in_ok-labels.ensures in
    let labels = (found (linked_both c.args.files.now c.args.tag.now) ways).0 in
    rw (c.deref-4.ensures.value, c.deref-5.ensures.value) labels.same_length

pub grouped-requires-clause-within : goal.grouped-requires-clause-within
grouped-requires-clause-within c =
    let both : List Link = c.in_ok-both.both.items in
    let links : List Link = c.in_ok-links.links.items in
    let ways : AreBothWays (linked_both c.args.files.now c.args.tag.now) both =
    both_held c.args.files.now c.args.tag.now links both c.in_ok-links.ensures.members (rw c.deref.ensures.value at c.in_ok-both.ensures) in
    let found = rw (c.deref-2.ensures.value, c.deref-3.ensures.value) at c.in_ok-labels.ensures in
    let labels = (found (linked_both c.args.files.now c.args.tag.now) ways).0 in
    rw (c.deref-4.ensures.value, c.deref-5.ensures.value) (labels_below (linked_both c.args.files.now c.args.tag.now) c.in_ok-carriers.carriers.items c.in_ok-labels.labels.items labels)

pub returns : goal.returns
returns c =
    let files = c.args.files.now in
    let tag = c.args.tag.now in
    let both : List Link = c.in_ok-both.both.items in
    let links : List Link = c.in_ok-links.links.items in
    let carriers : List Address = c.in_ok-carriers.carriers.items in
    let ways : AreBothWays (linked_both files tag) both = both_held files tag links both c.in_ok-links.ensures.members (rw c.deref.ensures.value at c.in_ok-both.ensures) in
    let found = rw (c.deref-2.ensures.value, c.deref-3.ensures.value) at c.in_ok-labels.ensures in
    let (labels, settled) = found (linked_both files tag) ways in
    let groups = rw (c.deref-4.ensures.value, c.deref-5.ensures.value) at c.in_ok-parts.ensures in
    parts_grouped carriers c.in_ok-carriers.ensures.ascending (linked_both files tag) both ways (ends_carry files tag carriers c.in_ok-carriers.ensures.members)
    c.in_ok-labels.labels.items labels settled files tag c.in_ok-parts.parts.items c.in_ok-carriers.ensures.members refl groups
