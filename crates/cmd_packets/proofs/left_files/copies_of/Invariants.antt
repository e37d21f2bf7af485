use Rattle.std.proofs.Common.{◌≡◌, take}
use Rattle.cmd_packets.proofs.left_files.copies_of.Given as goal

abbrev pub invariant-found : goal.invariant-found
invariant-found l = l.copies.items ≡ take l.left-index l.found
