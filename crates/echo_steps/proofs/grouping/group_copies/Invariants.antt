use Rattle.std.proofs.Common.{◌≡◌, ◌++◌, drop}
use Rattle.echo_packet.specs.Message.{messages_bytes}
use Rattle.echo_steps.specs.Counts.{copies_out}
use Rattle.echo_steps.proofs.grouping.group_copies.Given as goal

abbrev pub invariant-sent : goal.invariant-sent
invariant-sent l = l.bytes.items ++ messages_bytes (copies_out l.address (drop l.one-index l.group.sent)) ≡ messages_bytes (copies_out l.address l.group.sent)
