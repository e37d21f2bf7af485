-- The message of a base with an id: the parts that a mail answering it takes, and whether it was posted here.
use Rattle.std.specs.Prelude.{◌≡◌, ℕ, zero, suc, ◌&&◌, not, bytes_eq, Bool, false, List, ◌∷◌, codes, length, take, if◌then◌else◌, slice_get, Option, Some, None, is_some}
use Rattle.std.specs.{List.prefix_len, Option.option_map}
use Rattle.{base_file.specs.Base.Base, echo_addr.specs.Entries.is_blank}
use Rattle.{echo_charset.specs.{declared.charset.Charset.{Charset, TheVariants.Cp437}, Charset.named}, echo_filed.specs.Filed.Filed}
use Rattle.{echo_links.specs.Links.upper, echo_text.specs.Echo.{first_after, msgid_of}, cmd_numbered.specs.declared.finding.Answered.Answered}
use Rattle.cmd_numbered.specs.declared.finding.PostedWords.{PostedWords}

abbrev pub is_id_of : List ℕ → Option (List ℕ) → Bool
is_id_of id None = false
is_id_of id (Some own) = bytes_eq own id

abbrev pub has_id : Filed → List ℕ → Bool
has_id m id = is_id_of id (msgid_of m.echo.kept)

-- The later message if it has the id, else the one found before.
abbrev pub last_at : List ℕ → Option Filed → Option Filed → Option Filed
last_at id None before = before
last_at id (Some m) before = if has_id m id then Some m else before

-- The last of the first `n` messages with the id.
abbrev pub last_with : List ℕ → List Filed → ℕ → Option Filed
last_with id base zero = None
last_with id base (suc n) = last_at id (slice_get base n) (last_with id base n)

-- The beginning of a charset's line, and the name at the front of its value.
abbrev pub charset_word : List ℕ
charset_word = 1 ∷ codes "CHRS:"

abbrev pub label_name : List ℕ → List ℕ
label_name label = take (prefix_len (λ b. not (is_blank b)) label) label

-- The charset of a label; none if it is unknown, CP437 without a label.
abbrev pub charset_named : Option (List ℕ) → Option Charset
charset_named None = Some Cp437
charset_named (Some label) = named (label_name label)

abbrev pub charset_of : Filed → Option Charset
charset_of m = charset_named (first_after charset_word m.echo.kept)

abbrev pub answered_as : Filed → Answered
answered_as m = record { tag = m.echo.tag; charset = charset_of m }

abbrev pub IsAnswered : List ℕ → Base → Option Answered → Type 0
IsAnswered id base found = found ≡ option_map answered_as (last_with id base.messages (length base.messages))

-- Whether a message was posted here in this area, with these names and this subject.
abbrev pub has_words : List ℕ → PostedWords → Filed → Bool
has_words tag words m =
    not (is_some m.sender)
    && (bytes_eq m.echo.tag tag && (bytes_eq m.to_name words.to_name.now && (bytes_eq m.from_name words.from_name.now && bytes_eq m.subject words.subject.now)))

abbrev pub is_found_as : List ℕ → PostedWords → Option Filed → Bool
is_found_as tag words None = false
is_found_as tag words (Some m) = has_words tag words m

-- The answer says whether the last message of a base with the id was posted here under these words.
abbrev pub IsPostedAs : PostedWords → Base → Bool → Type 0
IsPostedAs words base posted = posted ≡ is_found_as (upper words.tag.now) words (last_with words.id.now base.messages (length base.messages))
