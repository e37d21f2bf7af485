-- Texts in the bytes of a charset.
use Rattle.std.specs.{Prelude.{ℕ, ◌≡◌, ◌<◌, ◌⊎◌, false, Contains, List}, Str.chars}
use Rattle.echo_charset.specs.{declared.charset.Charset.Charset, Charset.character, Charset.is_utf8}

-- No byte of the charset is this character. U+FFFD marks a missing character and is never encoded.
abbrev pub IsLacked : Charset → ℕ → Type 0
IsLacked charset c = (c ≡ 0xFFFD) ⊎ ((byte : ℕ) → byte < 256 → character charset byte ≡ c → ⊥)

-- The text has a character that the charset lacks.
abbrev pub LacksOne : Charset → List ℕ → Type 0
LacksOne charset text = (c : ℕ) × Contains (chars text) c × IsLacked charset c

-- The charset is not UTF-8, and lacks a character of the text.
abbrev pub Lacks : Charset → List ℕ → Type 0
Lacks charset text = (is_utf8 charset ≡ false) × LacksOne charset text
