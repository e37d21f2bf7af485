-- A digest by SipHash.
use Rattle.std.specs.{Prelude.ℕ, Prelude.◌%◌, Prelude.◌^◌, Prelude.List, Int.w64, Int.to_le_bytes}
use Rattle.std.specs.Hash.DefaultHasher as sip

-- The digest of the bytes under the two halves of a key, low byte first: a number of eight bytes.
abbrev pub sip_digest : ℕ → ℕ → List ℕ → ℕ
sip_digest first second bytes = sip.finish (sip.write (sip.write (sip.write sip.initial (to_le_bytes w64 first)) (to_le_bytes w64 second)) bytes) % 2 ^ 64
