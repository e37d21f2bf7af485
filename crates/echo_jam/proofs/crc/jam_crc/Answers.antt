use Rattle.std.{proofs.{Common.{◌≡◌, ℕ, ◌+◌, ◌<◌, ◌∙◌, List, ap, drop, get_or, length, map, sym}, lemmas.List.at_drop_more}, specs.Char.to_ascii_lowercase}
use Rattle.echo_jam.specs.Crc.{crc_after, crc_byte}
use Rattle.echo_jam.proofs.crc.jam_crc.Goals as goal

byte_more : (crc new low whole : ℕ) (bytes : List ℕ) (k : ℕ) → k < length bytes → low ≡ to_ascii_lowercase (get_or bytes k 0) → new ≡ crc_byte crc low
    → crc_after crc (map to_ascii_lowercase (drop k bytes)) ≡ whole → crc_after new (map to_ascii_lowercase (drop (k + 1) bytes)) ≡ whole
byte_more crc new low whole bytes k inside lowered is before =
    ap (λ (n : ℕ). crc_after n (map to_ascii_lowercase (drop (k + 1) bytes))) (is ∙ ap (crc_byte crc) lowered)
    ∙ sym (at_drop_more (λ (l : List ℕ). crc_after crc (map to_ascii_lowercase l)) bytes k 0 inside)
    ∙ before

pub bytes-preserved : goal.bytes-preserved
bytes-preserved c =
    byte_more c.bytes.crc c.crc_byte-crc.result c.to_ascii_lowercase.result _ c.args.bytes.now c.bytes.byte-index c.bytes-test.true c.to_ascii_lowercase.ensures.value c.crc_byte-crc.ensures c.bytes.invariant
