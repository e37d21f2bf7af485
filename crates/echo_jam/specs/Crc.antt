-- The CRC-32 by which JAM finds names and ids. It is taken of small letters, begins with all bits set, and is not inverted
-- at the end.
use Rattle.std.specs.{Prelude.{ℕ, ◌/◌, ◌%◌, ◌==◌, bit_xor, List, [], ◌∷◌, map, if◌then◌else◌}, Char.to_ascii_lowercase}

-- One bit: if the bit shifted out is 1, the polynomial (lowest bit first) is added.
abbrev pub crc_bit : ℕ → ℕ
crc_bit crc = if crc % 2 == 1 then bit_xor (crc / 2) 3988292384 else crc / 2

-- One byte: eight bits.
abbrev pub crc_byte : ℕ → ℕ → ℕ
crc_byte crc byte = crc_bit (crc_bit (crc_bit (crc_bit (crc_bit (crc_bit (crc_bit (crc_bit (bit_xor crc byte))))))))

-- The CRC after bytes, one after another.
abbrev pub crc_after : ℕ → List ℕ → ℕ
crc_after crc [] = crc
crc_after crc (byte ∷ later) = crc_after (crc_byte crc byte) later

-- The CRC of a name or an id, in small letters.
abbrev pub jam_crc : List ℕ → ℕ
jam_crc bytes = crc_after 4294967295 (map to_ascii_lowercase bytes)
