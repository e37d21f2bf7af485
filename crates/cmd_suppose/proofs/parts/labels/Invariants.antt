-- The links so far are settled.
use Rattle.{std.proofs.Common.{◌≡◌, Bool, length, take}, echo_addr.specs.declared.address.Address.Address}
use Rattle.cmd_suppose.specs.Parts.{AreBothWays, AreLabels, AreSettled}
use Rattle.cmd_suppose.proofs.parts.labels.Given as goal

abbrev pub invariant-links : goal.invariant-links
invariant-links l = record {
  same_length : length l.labels.items ≡ length l.carriers;
  labels : (linked : Address → Address → Bool) → AreBothWays linked l.both → AreLabels linked l.carriers l.labels.items;
  settled : AreSettled l.carriers (take l.link-index l.both) l.labels.items;
}
