use Rattle.std.{proofs.Common.{◌≡◌, drop, map}, specs.Char.to_ascii_lowercase}
use Rattle.echo_jam.specs.Crc.{crc_after}
use Rattle.echo_jam.proofs.crc.jam_crc.Given as goal

abbrev pub invariant-bytes : goal.invariant-bytes
invariant-bytes l = crc_after l.crc (map to_ascii_lowercase (drop l.byte-index l.bytes)) ≡ crc_after 4294967295 (map to_ascii_lowercase l.bytes)
