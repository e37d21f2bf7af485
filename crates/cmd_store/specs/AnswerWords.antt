-- An answer to a message of the base: the words that the message gives.
use Rattle.std.specs.Prelude.{◌≡◌, ℕ, ◌-◌, ◌++◌, ◌==◌, ◌&&◌, not, nat_lt, Bool, codes, List, [], length, Option, Some, None, if◌then◌else◌, slice_index, take}
use Rattle.std.specs.Char.{eq_ignore_ascii_case}
use Rattle.{echo_filed.specs.Filed.Filed, echo_packet.specs.Message.max_subject, echo_text.specs.Echo.msgid_of}
use Rattle.{model_steps.specs.ReplyIds.is_reply_id, cmd_store.specs.declared.{drafting.NewMessage.NewMessage, answering.Answer.Answer}}
use Rattle.cmd_store.specs.declared.answering.ReplyFields.{ReplyFields}

-- The subject of an answer: it begins with `Re:`, in letters of either case.
abbrev pub is_answer : List ℕ → Bool
is_answer subject =
    not (nat_lt (length subject) 3)
    && (eq_ignore_ascii_case (slice_index subject 0) 114
    && (eq_ignore_ascii_case (slice_index subject 1) 101 && (slice_index subject 2 == 58)))

-- The room in a packed message for a subject after `Re: `.
abbrev pub room_behind : ℕ
room_behind = max_subject - 4

-- The subject of an answer. It begins with `Re: ` once, and the part without room is left out.
abbrev pub answered : List ℕ → List ℕ
answered subject = if is_answer subject then subject else codes "Re: " ++ take room_behind subject

-- The id that an answer names. An invalid one is left out.
abbrev pub named_id : Option (List ℕ) → List ℕ
named_id None = []
named_id (Some msgid) = if is_reply_id msgid then msgid else []

-- The words that a message gives to its answer.
pub record IsFound (m : Filed) (found : ReplyFields) : Type 0 where
  pub tag : found.tag ≡ m.echo.tag
  pub to_name : found.to_name ≡ m.from_name
  pub subject : found.subject ≡ answered m.subject
  pub reply : found.reply ≡ named_id (msgid_of m.echo.kept)

-- The words of the answer: the message's area, author, subject and id; all others as given.
pub record IsReply (m : Filed) (answer : Answer) (words : NewMessage) : Type 0 where
  pub tag : words.tag.now ≡ m.echo.tag
  pub to_name : words.to_name.now ≡ m.from_name
  pub from_name : words.from_name.now ≡ answer.from_name.now
  pub subject : words.subject.now ≡ answered m.subject
  pub reply : words.reply.now ≡ named_id (msgid_of m.echo.kept)
  pub serial : words.serial ≡ answer.serial
  pub stamp : words.stamp ≡ answer.stamp
