use Rattle.std.specs.Prelude.{◌≡◌, ℕ, ◌+◌, ◌^◌, ◌<◌, ◌≤◌, ◌⊎◌, ⊤, ◌==◌, ◌||◌, ◌&&◌, not, nat_eq, nat_lt, Bool, true, false, List, [], ◌∷◌, ◌++◌, map, length, take, codes, if◌then◌else◌, is_none, Result, Ok, Err, bytes_eq}
use Rattle.std.specs.List.{AllByRecursion, flat_map, list_all, list_any, starts_with}
use Rattle.echo_packet.specs.Message.{max_name, max_subject}
use Rattle.echo_text.specs.{Lines.is_tag, Lines.trimmed, Refusal.text_refusal, Ids.is_line_byte, Ids.is_zero}
use Rattle.echo_filed.specs.Stored.{IsStored, Stored, has_tag, is_posted, is_short, is_short_enough, long, long_at, message_in, stored_as, stored_bytes}
use Rattle.echo_filed.specs.{Written.echo_of, Written.text_of, Filed.Filed, Filed.key_of, declared.stored.Version.Version}
use Rattle.echo_filed.specs.declared.stored.Version.TheVariants.{First, Second}
use Rattle.base_file.specs.{declared.fault.BaseFault.BaseFault, Base.is_known}
use Rattle.base_file.specs.declared.fault.BaseFault.TheVariants as fault

-- The first bytes of a base file.
abbrev pub magic : Version → List ℕ
magic First = codes "ECHOBAS1"
magic Second = codes "ECHOBAS2"

abbrev pub is_other_kind : Version → ℕ → Bool
is_other_kind First kind = nat_lt 1 kind
is_other_kind Second kind = nat_lt 3 kind

-- A posted message with a sender.
abbrev pub has_wrong_sender : Stored → Bool
has_wrong_sender s = is_posted s.kind && not ((s.zone == 0) && ((s.net == 0) && (s.node == 0)))

abbrev pub is_no_string : ℕ → List ℕ → Bool
is_no_string most s = nat_lt most (length s) || list_any is_zero s

abbrev pub has_wrong_string : Stored → Bool
has_wrong_string s = is_no_string max_name s.to_name || (is_no_string max_name s.from_name || is_no_string max_subject s.subject)

-- The text contains a 00, is no echomail, or differs from the text that the tosser writes for it.
abbrev pub is_wrong_text : List ℕ → Bool
is_wrong_text text =
    list_any is_zero text || (not (is_none (text_refusal text)) || not (bytes_eq (text_of (echo_of text)) text))

-- The id is empty, contains 00 or 0D, or has a blank at an end.
abbrev pub is_wrong_id : List ℕ → Bool
is_wrong_id id = (length id == 0) || (not (list_all is_line_byte id) || not (bytes_eq (trimmed id) id))

abbrev pub has_wrong_last : Version → Stored → Bool
has_wrong_last version s =
    if has_tag version s.kind then not (is_tag s.tag) || is_wrong_id s.last else is_wrong_text s.last

-- The message has the text where tag and id should be, or the reverse.
abbrev pub has_wrong_form : Version → ℕ → ℕ → Stored → Bool
has_wrong_form version cursor place s =
    if has_tag version s.kind then not (is_short version cursor place (message_in version s))
    else is_short version cursor place (message_in version s)

-- The message must not follow the earlier ones in a base.
unfoldable pub is_damaged : Version → ℕ → List Filed → Stored → Bool
is_damaged version cursor earlier s =
    is_other_kind version s.kind
    || (has_wrong_sender s
    || (has_wrong_string s
    || (has_wrong_last version s
    || (has_wrong_form version cursor (length earlier) s || is_known earlier (key_of (message_in version s))))))

-- Each message may follow those before it.
abbrev pub AreSound : Version → ℕ → List Filed → List Stored → Type 0
AreSound version cursor earlier [] = ⊤
AreSound version cursor earlier (s ∷ later) =
    (is_damaged version cursor earlier s ≡ false) × AreSound version cursor (earlier ++ message_in version s ∷ []) later

-- The first 16 bytes: the version, the cursor and the number of messages.
unfoldable pub head_bytes : Version → ℕ → ℕ → List ℕ
head_bytes version cursor number = magic version ++ (long cursor ++ long number)

-- The head and the first messages of a base, which may have more.
pub record Begins (version : Version) (cursor number : ℕ) (all : List Stored) (rest bytes : List ℕ) : Type 0 where
  pub number_fits : number < 2 ^ 32
  pub cursor_within : cursor ≤ number
  pub sizes : AllByRecursion (IsStored version) all
  pub sound : AreSound version cursor [] all
  pub whole : bytes ≡ head_bytes version cursor number ++ (flat_map (stored_bytes version) all ++ rest)

-- The bytes are a base of these messages and this cursor, in either version.
pub record BaseOf (base : List Filed) (cursor : ℕ) (bytes : List ℕ) : Type 0 where
  pub version : Version
  pub all : List Stored
  pub begins : Begins version cursor (length all) all [] bytes
  pub messages : base ≡ map (message_in version) all

-- The first eight bytes, or fewer at the end of the input, begin a base file.
abbrev pub is_front : List ℕ → Bool
is_front bytes = starts_with nat_eq (magic First) (take 8 bytes) || starts_with nat_eq (magic Second) (take 8 bytes)

-- The bytes do not begin a base, or the cursor is past the number of messages.
abbrev pub IsNoBase : List ℕ → Type 0
IsNoBase bytes = (is_front bytes ≡ false) ⊎ ((16 ≤ length bytes) × (long_at 12 bytes < long_at 8 bytes))

-- After n whole messages the input ends inside a message.
pub record EndsInside (n : ℕ) (bytes : List ℕ) : Type 0 where
  pub version : Version
  pub cursor : ℕ
  pub number : ℕ
  pub all : List Stored
  pub rest : List ℕ
  pub begins : Begins version cursor number all rest bytes
  pub many : length all ≡ n
  pub one_more : n < number
  pub next : Stored
  pub size : IsStored version next
  pub missing : List ℕ
  pub some : 0 < length missing
  pub cut : stored_bytes version next ≡ rest ++ missing

-- After n sound messages, a damaged one follows.
pub record IsDamagedAt (n : ℕ) (bytes : List ℕ) : Type 0 where
  pub version : Version
  pub cursor : ℕ
  pub number : ℕ
  pub all : List Stored
  pub next : Stored
  pub rest : List ℕ
  pub begins : Begins version cursor number all (stored_bytes version next ++ rest) bytes
  pub many : length all ≡ n
  pub one_more : n < number
  pub size : IsStored version next
  pub damaged : is_damaged version cursor (map (message_in version) all) next ≡ true

abbrev pub BaseFaultOf : List ℕ → BaseFault → Type 0
BaseFaultOf bytes fault.NotBase = IsNoBase bytes
BaseFaultOf bytes (fault.Truncated n) =
    ((n ≡ 0) × (is_front bytes ≡ true) × (length bytes < 16)) ⊎ EndsInside n bytes
BaseFaultOf bytes (fault.Damaged n) = IsDamagedAt n bytes
BaseFaultOf bytes _ = ⊥

-- The parts of a base file: the messages, the cursor, and their length in bytes.
abbrev pub Loaded : Type 0
Loaded = List Filed × ℕ × ℕ

-- The correct answer of reading a base: the first bytes are this base, or the bytes have this fault.
abbrev pub LoadOf : List ℕ → Result Loaded BaseFault → Type 0
LoadOf bytes (Ok found) = (found.2 ≤ length bytes) × BaseOf found.0 found.1 (take found.2 bytes)
LoadOf bytes (Err refused) = BaseFaultOf bytes refused

unfoldable pub stored_at : ℕ → ℕ → Filed → Stored
stored_at cursor place m = stored_as (is_short Second cursor place m) m

abbrev pub stored_from : ℕ → ℕ → List Filed → List Stored
stored_from cursor place [] = []
stored_from cursor place (m ∷ later) = stored_at cursor place m ∷ stored_from cursor (place + 1) later

-- The saved bytes of a base.
unfoldable pub saved_bytes : List Filed → ℕ → List ℕ
saved_bytes base cursor =
    head_bytes Second cursor (length base) ++ flat_map (stored_bytes Second) (stored_from cursor 0 base)

-- Four bytes can count the messages, and the text or id of each.
unfoldable pub is_countable : List Filed → ℕ → Bool
is_countable base cursor = nat_lt (length base) (2 ^ 32) && list_all is_short_enough (stored_from cursor 0 base)
