-- Why a draft is refused: by itself, and by the base.
use Rattle.std.specs.{Prelude.{◌≡◌, Bool, false, ℕ, ◌==◌, ◌||◌, not, List, length, if◌then◌else◌, Option, Some, None}, List.list_any, Option.option_or}
use Rattle.echo_text.specs.Ids.{id_of, is_id}
use Rattle.echo_links.specs.Links.{LinkFile, has_area, upper}
use Rattle.echo_filed.specs.{declared.key.Key.Key, Filed.Filed, Filed.has_id, Filed.key_of}
use Rattle.base_file.specs.Base.{is_known}
use Rattle.model_steps.specs.{declared.draft.Draft.Draft, declared.stamp.Stamp.Stamp, declared.fault.PostFault.PostFault, Posting.holds_zero, Posting.is_too_long, Posting.post_refusal, Posting.posted}
use Rattle.model_steps.specs.{ReplyIds.is_reply_id, Stamps.is_stamp}
use Rattle.model_steps.specs.declared.fault.PostFault.TheVariants as fault
use Rattle.echo_steps.specs.declared.refusing.ReplyRule.{ReplyRule}
use Rattle.echo_steps.specs.declared.refusing.ReplyRule.TheVariants as rule

-- The rule takes these bytes as an id.
abbrev pub is_id_by : ReplyRule → List ℕ → Bool
is_id_by rule.EightDigits reply = is_id reply
is_id_by rule.AnyForm reply = is_reply_id reply

-- A draft may have this reply: none, or an id that the rule takes.
abbrev pub allows : ReplyRule → List ℕ → Bool
allows by reply = (length reply == 0) || is_id_by by reply

-- The first refusal that applies to a draft, without those that depend on the base.
abbrev pub draft_refusal_by : ReplyRule → LinkFile → List ℕ → Draft → Stamp → Option PostFault
draft_refusal_by by file tag draft stamp =
    if not (has_area file (upper tag)) then Some fault.NoArea
    else if holds_zero draft then Some fault.ByteZero
    else if is_too_long draft then Some fault.FieldTooLong
    else if not (is_stamp stamp) then Some fault.BadStamp
    else if not (allows by draft.reply) then Some fault.BadReply
    else None

abbrev pub draft_refusal : LinkFile → List ℕ → Draft → Stamp → Option PostFault
draft_refusal file tag draft stamp = draft_refusal_by rule.AnyForm file tag draft stamp

-- The first refusal that applies to a posting by this rule. For `AnyForm` it is `post_refusal`.
abbrev pub refusal_by : ReplyRule → LinkFile → List Filed → List ℕ → Draft → ℕ → Stamp → Option PostFault
refusal_by by file base tag draft serial stamp =
    option_or (draft_refusal_by by file tag draft stamp)
    (if list_any (has_id (id_of file.system serial)) base then Some fault.KnownSerial else None)

-- A message that may be filed for a draft, and its key.
pub record IsPrepared (file : LinkFile) (base : List Filed) (tag : List ℕ) (draft : Draft) (serial : ℕ) (stamp : Stamp) (key : Key) (m : Filed) : Type 0 where
  pub allowed : post_refusal file base tag draft serial stamp ≡ None
  pub message : m ≡ posted file tag draft serial stamp
  pub own_key : key ≡ key_of m
  pub new : is_known base key ≡ false
