-- Posting: the message filed for a draft, and why a draft is refused.
pub use Rattle.echo_filed.specs.Filed.{has_id}
use Rattle.std.specs.Prelude.{◌≡◌, ℕ, ◌⊎◌, ◌==◌, ◌||◌, not, nat_lt, Bool, true, false, List, [], ◌∷◌, ◌++◌, length, codes, if◌then◌else◌, Option, Some, None, is_none}
use Rattle.std.specs.List.{list_any}
use Rattle.echo_addr.specs.Address.{address_text}
use Rattle.echo_text.specs.{Lines.{lines, msgid_word, origin_word, reply_word, trimmed}, Ids.{id_of, is_zero}}
use Rattle.echo_packet.specs.Message.{max_name, max_subject}
use Rattle.model_steps.specs.{declared.draft.Draft.Draft, declared.stamp.Stamp.Stamp, declared.fault.PostFault.PostFault, ReplyIds.is_reply_id, Stamps.date_of, Stamps.is_stamp}
use Rattle.model_steps.specs.declared.fault.PostFault.TheVariants as fault
use Rattle.echo_links.specs.Links.{LinkFile, has_area, upper}
use Rattle.echo_filed.specs.Filed.{Filed, id_line}

-- The REPLY line, if the draft answers a message.
abbrev pub reply_lines : List ℕ → List (List ℕ)
reply_lines reply = if length reply == 0 then [] else id_line reply_word (trimmed reply) ∷ []

abbrev pub origin_line : LinkFile → List ℕ
origin_line file = origin_word ++ (file.name ++ (codes " (" ++ (address_text file.system ++ codes ")")))

-- The kept lines of a posting: its id, the reply, the body, the tear line and the origin line.
unfoldable pub posted_lines : LinkFile → Draft → ℕ → List (List ℕ)
posted_lines file draft serial =
    id_line msgid_word (id_of file.system serial)
    ∷ (reply_lines draft.reply ++ (lines draft.body ++ codes "--- echonet" ∷ (origin_line file ∷ [])))

unfoldable pub posted : LinkFile → List ℕ → Draft → ℕ → Stamp → Filed
posted file tag draft serial stamp = record {
  sender = None;
  date = date_of stamp;
  to_name = draft.to_name;
  from_name = draft.from_name;
  subject = draft.subject;
  echo = record { tag = upper tag; kept = posted_lines file draft serial; seen = []; path = [] };
}

-- A field of the draft contains a 00.
abbrev pub holds_zero : Draft → Bool
holds_zero draft =
    list_any is_zero draft.to_name
    || (list_any is_zero draft.from_name
    || (list_any is_zero draft.subject || (list_any is_zero draft.reply || list_any is_zero draft.body)))

-- A name or the subject is too long for a packed message.
abbrev pub is_too_long : Draft → Bool
is_too_long draft = nat_lt max_name (length draft.to_name) || (nat_lt max_name (length draft.from_name) || nat_lt max_subject (length draft.subject))

-- The first refusal that applies to a posting.
unfoldable pub post_refusal : LinkFile → List Filed → List ℕ → Draft → ℕ → Stamp → Option PostFault
post_refusal file base tag draft serial stamp =
    if not (has_area file (upper tag)) then Some fault.NoArea
    else if holds_zero draft then Some fault.ByteZero
    else if is_too_long draft then Some fault.FieldTooLong
    else if not (is_stamp stamp) then Some fault.BadStamp
    else if not ((length draft.reply == 0) || is_reply_id draft.reply) then Some fault.BadReply
    else if list_any (has_id (id_of file.system serial)) base then Some fault.KnownSerial
    else None

-- No refusal applies to a posting.
pub record IsAllowed (file : LinkFile) (base : List Filed) (tag : List ℕ) (draft : Draft) (serial : ℕ) (stamp : Stamp) : Type 0 where
  pub area : has_area file (upper tag) ≡ true
  pub zero : holds_zero draft ≡ false
  pub short : is_too_long draft ≡ false
  pub moment : is_stamp stamp ≡ true
  pub reply : ((length draft.reply == 0) || is_reply_id draft.reply) ≡ true
  pub new : list_any (has_id (id_of file.system serial)) base ≡ false

-- This refusal is the first that applies, in the order B1, B2, B3, B5, B6, B4.
abbrev pub IsFirstRefusal : LinkFile → List Filed → List ℕ → Draft → ℕ → Stamp → PostFault → Type 0
IsFirstRefusal file base tag draft serial stamp fault.NoArea = has_area file (upper tag) ≡ false
IsFirstRefusal file base tag draft serial stamp fault.ByteZero = (has_area file (upper tag) ≡ true) × (holds_zero draft ≡ true)
IsFirstRefusal file base tag draft serial stamp fault.FieldTooLong =
    (has_area file (upper tag) ≡ true) × (holds_zero draft ≡ false) × (is_too_long draft ≡ true)
IsFirstRefusal file base tag draft serial stamp fault.BadStamp =
    (has_area file (upper tag) ≡ true) × (holds_zero draft ≡ false) × (is_too_long draft ≡ false) × (is_stamp stamp ≡ false)
IsFirstRefusal file base tag draft serial stamp fault.BadReply =
    (has_area file (upper tag) ≡ true) × (holds_zero draft ≡ false) × (is_too_long draft ≡ false) × (is_stamp stamp ≡ true)
    × (((length draft.reply == 0) || is_reply_id draft.reply) ≡ false)
IsFirstRefusal file base tag draft serial stamp fault.KnownSerial =
    (has_area file (upper tag) ≡ true) × (holds_zero draft ≡ false) × (is_too_long draft ≡ false) × (is_stamp stamp ≡ true)
    × (((length draft.reply == 0) || is_reply_id draft.reply) ≡ true) × (list_any (has_id (id_of file.system serial)) base ≡ true)
IsFirstRefusal file base tag draft serial stamp fault.Memory = ⊥

-- The message that a posting files.
unfoldable pub posting : LinkFile → List Filed → List ℕ → Draft → ℕ → Stamp → Option Filed
posting file base tag draft serial stamp = if is_none (post_refusal file base tag draft serial stamp) then Some (posted file tag draft serial stamp) else None

-- A refused posting returns the first refusal that applies, or out of memory for a draft without fault.
abbrev pub IsPostFault : LinkFile → List Filed → List ℕ → Draft → ℕ → Stamp → PostFault → Type 0
IsPostFault file base tag draft serial stamp fault.Memory =
    (post_refusal file base tag draft serial stamp ≡ None) ⊎ (post_refusal file base tag draft serial stamp ≡ Some fault.KnownSerial)
IsPostFault file base tag draft serial stamp refused = post_refusal file base tag draft serial stamp ≡ Some refused
