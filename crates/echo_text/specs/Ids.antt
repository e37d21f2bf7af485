-- The spelling of message ids (FTS-0009).
use Rattle.std.specs.Prelude.{◌≡◌, ◌≢◌, ◌<◌, ℕ, ◌-◌, ◌/◌, ◌%◌, ◌^◌, ◌==◌, ◌||◌, ◌&&◌, not, nat_lt, Bool, true, false, List, [], ◌∷◌, ◌++◌, map, length, take, drop, slice_index, codes, if◌then◌else◌}
use Rattle.std.specs.{Int.is_in_range, List.AllPass, List.list_all, List.suffix_len, Str.Parse.AllDigits, Str.Parse.digits_value}
use Rattle.echo_addr.specs.{declared.address.Address.Address, Address.address_text, Entries.is_blank}
use Rattle.echo_text.specs.Lines.{trimmed}

abbrev pub hex_digit : ℕ → ℕ
hex_digit n = slice_index (codes "0123456789abcdef") n

-- A serial as eight hexadecimal digits in lower case.
abbrev pub serial_text : ℕ → List ℕ
serial_text serial = map (λ k. hex_digit (serial / 16 ^ k % 16)) (7 ∷ (6 ∷ (5 ∷ (4 ∷ (3 ∷ (2 ∷ (1 ∷ (0 ∷ []))))))))

-- The id that a system gives its message with this serial.
unfoldable pub id_of : Address → ℕ → List ℕ
id_of address serial = address_text address ++ (codes " " ++ serial_text serial)

abbrev pub is_hex_digit : ℕ → Bool
is_hex_digit b = is_in_range 48 57 b || (is_in_range 65 70 b || is_in_range 97 102 b)

abbrev pub is_zero : ℕ → Bool
is_zero b = b == 0

abbrev pub is_gap : ℕ → Bool
is_gap b = b == 32

abbrev pub is_quote : ℕ → Bool
is_quote b = b == 34

abbrev pub is_line_byte : ℕ → Bool
is_line_byte b = not (is_zero b || (b == 13))

-- The bytes before the serial, and the same without the blanks 20 at their end.
abbrev pub before_serial : List ℕ → List ℕ
before_serial id = take (length id - 8) id

abbrev pub without_gap : List ℕ → List ℕ
without_gap front = take (length front - suffix_len is_gap front) front

-- Bytes with each double quote doubled, then one double quote. `single` means that an unpaired double quote is just before them.
abbrev pub ends_quoted : Bool → List ℕ → Bool
ends_quoted single [] = single
ends_quoted single (b ∷ rest) = (is_quote b || not single) && ends_quoted (is_quote b && not single) rest

-- The origin is in double quotes, and each double quote between them is doubled.
abbrev pub is_quoted_origin : List ℕ → Bool
is_quoted_origin [] = false
is_quoted_origin (first ∷ rest) = is_quote first && ends_quoted false rest

-- One byte or more, without blanks. The first is no double quote.
abbrev pub is_bare_origin : List ℕ → Bool
is_bare_origin [] = false
is_bare_origin (first ∷ rest) =
    not (is_quote first) && list_all (λ b. not (is_blank b)) (first ∷ rest)

-- An origin, one blank 20 or more, and eight digits, without 00 and 0D.
abbrev pub is_id_trimmed : List ℕ → Bool
is_id_trimmed id =
    list_all is_line_byte id
    && (nat_lt (length (without_gap (before_serial id))) (length (before_serial id))
    && (list_all is_hex_digit (drop (length id - 8) id)
    && (is_quoted_origin (without_gap (before_serial id)) || is_bare_origin (without_gap (before_serial id)))))

-- The bytes spell an id. Blanks are allowed at both ends.
unfoldable pub is_id : List ℕ → Bool
is_id id = is_id_trimmed (trimmed id)

-- The parts of an address fit in 16 bits.
pub record IsWide (a : Address) : Type 0 where
  pub zone : a.zone < 2 ^ 16
  pub net : a.net < 2 ^ 16
  pub node : a.node < 2 ^ 16

abbrev pub doubled : List ℕ → List ℕ
doubled [] = []
doubled (b ∷ rest) = if is_quote b then 34 ∷ (34 ∷ doubled rest) else b ∷ doubled rest

-- Each doubled double quote becomes one. `taken` means that the first of a pair is just before the bytes.
abbrev pub undoubled : Bool → List ℕ → List ℕ
undoubled taken [] = []
undoubled taken (b ∷ rest) =
    if taken && is_quote b then undoubled false rest else b ∷ undoubled (is_quote b) rest

-- An origin without quotes: one byte or more, without blanks. The first is no double quote.
pub record Bare (spelled origin : List ℕ) : Type 0 where
  pub same : origin ≡ spelled
  pub some : 0 < length spelled
  pub first : slice_index spelled 0 ≢ 34
  pub ink : AllPass (λ b. not (is_blank b)) spelled

-- An origin in double quotes, with each double quote between them doubled.
pub record Quoted (spelled origin : List ℕ) : Type 0 where
  pub plain : List ℕ
  pub between : spelled ≡ 34 ∷ (origin ++ 34 ∷ [])
  pub each_doubled : origin ≡ doubled plain

abbrev pub SpellsOrigin : Bool → List ℕ → List ℕ → Type 0
SpellsOrigin true spelled origin = Quoted spelled origin
SpellsOrigin false spelled origin = Bare spelled origin

-- The bytes are an origin, one blank 20 or more, and a serial of eight hexadecimal digits, without 00 and 0D.
pub record IdParts (id origin : List ℕ) (quoted : Bool) (serial : ℕ) : Type 0 where
  pub spelled : List ℕ
  pub gap : List ℕ
  pub digits : List ℕ
  pub whole : id ≡ spelled ++ (gap ++ digits)
  pub line : AllPass is_line_byte id
  pub spelling : SpellsOrigin quoted spelled origin
  pub apart : 0 < length gap
  pub blanks : AllPass is_gap gap
  pub eight : length digits ≡ 8
  pub hex : AllDigits 16 digits
  pub value : digits_value 16 digits ≡ serial

-- The bytes spell this id. Blanks are allowed at both ends.
abbrev pub IdOf : List ℕ → List ℕ → Bool → ℕ → Type 0
IdOf b origin quoted serial = IdParts (trimmed b) origin quoted serial

abbrev pub SpellsId : List ℕ → Type 0
SpellsId b = (origin : List ℕ) × (quoted : Bool) × (serial : ℕ) × IdOf b origin quoted serial

abbrev pub NoId : List ℕ → Type 0
NoId b = (origin : List ℕ) (quoted : Bool) (serial : ℕ) → IdOf b origin quoted serial → ⊥

pub record SameId (o p : List ℕ) (quoted other : Bool) (s t : ℕ) : Type 0 where
  pub origin : o ≡ p
  pub quoting : quoted ≡ other
  pub serial : s ≡ t
