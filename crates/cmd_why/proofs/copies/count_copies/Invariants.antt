use Rattle.{std.proofs.Common.{◌≡◌, ◌≤◌, take}, echo_addr.specs.declared.address.Address.Address, echo_filed.specs.declared.key.Key.TheVariants.ById}
use Rattle.cmd_why.proofs.Counting.{total}
use Rattle.cmd_why.proofs.copies.count_copies.Given as goal

abbrev pub invariant-messages : goal.invariant-messages
invariant-messages l = record {
  few : l.count ≤ l.packed-index;
  counted : (sender : Address) → l.count ≡ total sender (ById l.tag l.id) (take l.packed-index l.messages);
}
