use Rattle.std.proofs.Common.{◌≡◌, ◌++◌, drop, false}
use Rattle.echo_text.specs.Ids.{undoubled}
use Rattle.echo_text.proofs.msgid.undoubled.Given as goal

abbrev pub invariant-bytes : goal.invariant-bytes
invariant-bytes l = l.found.items ++ undoubled l.taken (drop l.byte-index l.bytes) ≡ undoubled false l.bytes
