use Rattle.std.proofs.Common.{◌≡◌, ◌++◌, take}
use Rattle.echo_charset.specs.Escaped.{escaped}
use Rattle.echo_charset.proofs.bytes.push_bytes.Given as goal

abbrev pub invariant-bytes : goal.invariant-bytes
invariant-bytes l = l.line.items ≡ l.initial.line.items ++ escaped (take l.byte-index l.bytes)
