use Rattle.{std.{proofs.Common.{◌≡◌, ◌++◌, take}, specs.List.flat_map}, cmd_store.specs.PacketLines.counted_line}
use Rattle.cmd_store.proofs.packet_lines.push_counted.Given as goal

abbrev pub invariant-packets : goal.invariant-packets
invariant-packets l = l.lines.items ≡ l.initial.lines.items ++ flat_map counted_line (take l.packet-index l.packets)
