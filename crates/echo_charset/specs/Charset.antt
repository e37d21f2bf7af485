-- Charsets of message texts: their names, their characters, and bytes as text.
use Rattle.std.specs.Prelude.{ℕ, ◌+◌, ◌-◌, ◌||◌, nat_lt, Bool, true, false, if◌then◌else◌, List, map, codes, bytes_eq, slice_index, encode_utf8, Option, Some, None}
use Rattle.std.specs.{List.flat_map, Char.to_ascii_lowercase, Str.Lossy.utf8_lossy}
use Rattle.echo_charset.specs.declared.charset.Charset.{TheVariants.{Ascii, Cp437, Cp850, Cp866, Cp1251, Koi8R, Latin1, Utf8}, Charset}
use Rattle.echo_charset.specs.declared.tables.TheConstants.{CP437, CP850, CP866, CP1251, KOI8_R}

abbrev pub is_called : List ℕ → List ℕ → Bool
is_called name word = bytes_eq (map to_ascii_lowercase name) (map to_ascii_lowercase word)

-- The charset with this name.
unfoldable pub named : List ℕ → Option Charset
named name =
    if is_called name (codes "ascii") then Some Ascii
    else if is_called name (codes "cp437") || is_called name (codes "ibmpc") then Some Cp437
    else if is_called name (codes "cp850") then Some Cp850
    else if is_called name (codes "cp866") || is_called name (codes "+7_fido") then Some Cp866
    else if is_called name (codes "cp1251") then Some Cp1251
    else if is_called name (codes "koi8-r") then Some Koi8R
    else if is_called name (codes "latin-1") then Some Latin1
    else if is_called name (codes "utf-8") then Some Utf8
    else None

-- The name of a charset in messages.
abbrev pub charset_name : Charset → List ℕ
charset_name Ascii = codes "ASCII"
charset_name Cp437 = codes "CP437"
charset_name Cp850 = codes "CP850"
charset_name Cp866 = codes "CP866"
charset_name Cp1251 = codes "CP1251"
charset_name Koi8R = codes "KOI8-R"
charset_name Latin1 = codes "LATIN-1"
charset_name Utf8 = codes "UTF-8"

-- The character of the byte 80 plus `above`, from the published table. It is U+FFFD if the table has no character.
unfoldable pub upper_half : Charset → ℕ → ℕ
upper_half Ascii above = 0xFFFD
upper_half Cp437 above = slice_index CP437 above
upper_half Cp850 above = slice_index CP850 above
upper_half Cp866 above = slice_index CP866 above
upper_half Cp1251 above = slice_index CP1251 above
upper_half Koi8R above = slice_index KOI8_R above
upper_half Latin1 above = above + 128
upper_half Utf8 above = 0xFFFD

abbrev pub character : Charset → ℕ → ℕ
character charset byte = if nat_lt byte 128 then byte else upper_half charset (byte - 128)

abbrev pub characters : Charset → List ℕ → List ℕ
characters charset bytes = flat_map (λ byte. encode_utf8 (character charset byte)) bytes

-- Whether a character may take several bytes.
abbrev pub is_utf8 : Charset → Bool
is_utf8 Utf8 = true
is_utf8 Ascii = false
is_utf8 Cp437 = false
is_utf8 Cp850 = false
is_utf8 Cp866 = false
is_utf8 Cp1251 = false
is_utf8 Koi8R = false
is_utf8 Latin1 = false

-- Bytes as text, in UTF-8.
unfoldable pub decoded_text : Charset → List ℕ → List ℕ
decoded_text charset bytes = if is_utf8 charset then utf8_lossy bytes else characters charset bytes
