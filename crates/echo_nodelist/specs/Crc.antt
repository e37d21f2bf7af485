-- The checksum of nodelists: bits divided by hand. The polynomial is x^16 + x^12 + x^5 + 1.
use Rattle.std.specs.Prelude.{ℕ, zero, suc, ◌+◌, ◌-◌, ◌^◌, ◌==◌, not, Bool, true, false, List, [], ◌∷◌, ◌++◌, length, drop, if◌then◌else◌}
use Rattle.std.specs.{List.flat_map, Int.bit_at}

-- This many lowest bits of a number, the highest first.
abbrev pub bits_of : ℕ → ℕ → List Bool
bits_of zero n = []
bits_of (suc k) n = (bit_at n k == 1) ∷ bits_of k n

-- The number of these bits, the highest first.
abbrev pub bits_value : List Bool → ℕ
bits_value [] = 0
bits_value (b ∷ rest) = (if b then 2 ^ length rest else 0) + bits_value rest

abbrev pub zeros : ℕ → List Bool
zeros zero = []
zeros (suc n) = false ∷ zeros n

-- The sum of two bits, without a carry.
abbrev pub sum_of : Bool → Bool → Bool
sum_of true b = not b
sum_of false b = b

-- Bits added to the front of other bits, one by one.
abbrev pub added : List Bool → List Bool → List Bool
added [] bits = bits
added (x ∷ xs) [] = []
added (x ∷ xs) (y ∷ ys) = sum_of x y ∷ added xs ys

-- 1 0001 0000 0010 0001.
abbrev pub divisor : List Bool
divisor = true ∷ (false ∷ (false ∷ (false ∷ (true ∷ (false ∷ (false ∷ (false ∷ (false ∷ (false ∷ (false ∷ (true ∷ (false ∷ (false ∷ (false ∷ (false ∷ (true ∷ []))))))))))))))))

-- A leading 0 is dropped. A leading 1 is dropped after adding the divisor.
abbrev pub stepped : List Bool → List Bool
stepped [] = []
stepped (false ∷ rest) = rest
stepped (true ∷ rest) = drop 1 (added divisor (true ∷ rest))

abbrev pub steps : ℕ → List Bool → List Bool
steps zero bits = bits
steps (suc n) bits = steps n (stepped bits)

-- Steps while there are more than sixteen bits. Each step removes one.
abbrev pub divided : List Bool → List Bool
divided bits = steps (length bits - 16) bits

-- The bits of the bytes and sixteen 0 bits, divided: the sixteen remaining bits.
unfoldable pub crc : List ℕ → ℕ
crc bytes = bits_value (divided (flat_map (bits_of 8) bytes ++ zeros 16))
