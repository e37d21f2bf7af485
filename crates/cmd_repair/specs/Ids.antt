-- The ids of messages, and their printed words.
use Rattle.std.specs.Prelude.{◌≡◌, ℕ, ◌+◌, ◌-◌, ◌*◌, ◌%◌, ◌==◌, ◌&&◌, not, nat_le, nat_lt, Bool, true, List, [], ◌∷◌, length, slice_index, if◌then◌else◌, bytes_eq, Option, Some, None}
use Rattle.std.specs.List.{cons_option, list_all}
use Rattle.{echo_addr.specs.Entries.is_blank, echo_charset.specs.Escaped.escaped, cmd_repair.specs.declared.words.Escape.{Escape, TheVariants.{Outside, Backslash, Prefix, Digit}}}

-- A byte of a line in the text of a message.
abbrev pub is_text_byte : ℕ → Bool
is_text_byte b = nat_lt b 256 && (not (b == 0) && not (b == 13))

-- An id: bytes of a line, at least one, without a blank at an end.
abbrev pub is_id : List ℕ → Bool
is_id id = nat_lt 0 (length id) && (list_all is_text_byte id && (not (is_blank (slice_index id 0)) && not (is_blank (slice_index id (length id - 1)))))

abbrev pub IsId : List ℕ → Type 0
IsId id = is_id id ≡ true

-- The value of a hex digit in small letters.
abbrev pub hex_digit : ℕ → ℕ
hex_digit b = (if nat_le b 57 then b - 48 else b - 87) % 16

abbrev pub next_escape : Escape → ℕ → Escape
next_escape Outside b = if b == 92 then Backslash else Outside
next_escape Backslash b = if b == 120 then Prefix else Outside
next_escape Prefix b = Digit (hex_digit b)
next_escape (Digit d) b = Outside

-- The byte that ends there.
abbrev pub ended_byte : Escape → ℕ → Option ℕ
ended_byte Outside b = if b == 92 then None else Some b
ended_byte Backslash b = if b == 120 then None else Some b
ended_byte Prefix b = None
ended_byte (Digit d) b = Some (d % 16 * 16 + hex_digit b)

abbrev pub unescaped : Escape → List ℕ → List ℕ
unescaped s [] = []
unescaped s (b ∷ word) = cons_option (ended_byte s b) (unescaped (next_escape s b) word)

-- The word is the escaped form of an id.
abbrev pub is_id_word : List ℕ → Bool
is_id_word word = is_id (unescaped Outside word) && bytes_eq (escaped (unescaped Outside word)) word

pub record IsWordOfId (word : List ℕ) : Type 0 where
  pub id : List ℕ
  pub is_id : IsId id
  pub printed : word ≡ escaped id
