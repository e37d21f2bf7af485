use Rattle.std.proofs.Common.{◌≡◌, take, string_bytes}
use Rattle.echo_charset.specs.Charset.{characters}
use Rattle.echo_charset.proofs.charset.Charset.characters.Given as goal

abbrev pub invariant-bytes : goal.invariant-bytes
invariant-bytes l = string_bytes l.text ≡ characters l.self (take l.byte-index l.bytes)
