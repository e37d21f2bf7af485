-- The packets so far were counted.
use Rattle.{std.proofs.Common.{◌≡◌, map, take}, station_scan.specs.Passing.with_group}
use Rattle.station_scan.proofs.counting.packets_with.Given as goal

abbrev pub invariant-packets : goal.invariant-packets
invariant-packets l = l.all.items ≡ map (with_group l.group.sent) (take l.link-index l.packets)
