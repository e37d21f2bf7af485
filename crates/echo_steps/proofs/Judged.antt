-- Why a posting is refused: the link file and the draft first, then the base.
use Rattle.std.{proofs.Common.{◌≡◌, ℕ, ◌==◌, ◌||◌, Bool, true, false, not, List, length, refl, Option, Some, None, if◌then◌else◌, arith}, specs.List.list_any}
use Rattle.std.proofs.lemmas.Bool.{cases_Bool}
use Rattle.echo_text.specs.Ids.{id_of}
use Rattle.echo_links.specs.Links.{IsFile, LinkFile, has_area, upper}
use Rattle.echo_filed.specs.{declared.key.Key.Key, Filed.Filed, Filed.key_of}
use Rattle.model_steps.specs.Posting.{IsAllowed, IsPostFault, has_id, holds_zero, is_too_long, post_refusal, posted}
use Rattle.model_steps.specs.{declared.draft.Draft.Draft, declared.stamp.Stamp.Stamp, declared.fault.PostFault.PostFault, ReplyIds.is_reply_id, Stamps.is_stamp}
use Rattle.model_steps.specs.declared.fault.PostFault.TheVariants as fault
use Rattle.model_steps.proofs.{FirstRefusals.refusal_first, Kept.posted_new}
use Rattle.echo_steps.specs.Refusals.{IsPrepared, draft_refusal}

abbrev pub five : Bool → Bool → Bool → Bool → Bool → Option PostFault → Option PostFault
five area zero long moment reply rest =
    if not area then Some fault.NoArea
    else if zero then Some fault.ByteZero
    else if long then Some fault.FieldTooLong
    else if not moment then Some fault.BadStamp
    else if not reply then Some fault.BadReply
    else rest

five_some : (area zero long moment reply : Bool) (rest : Option PostFault) (f : PostFault) → five area zero long moment reply None ≡ Some f → five area zero long moment reply rest ≡ Some f
five_some true false false true true rest f h = absurd (cc)
five_some true false false true false rest f h = h
five_some true false false false reply rest f h = h
five_some true false true moment reply rest f h = h
five_some true true long moment reply rest f h = h
five_some false zero long moment reply rest f h = h

pub record Five (area zero long moment reply : Bool) : Type 0 where
  pub area_there : area ≡ true
  pub no_zero : zero ≡ false
  pub short : long ≡ false
  pub in_range : moment ≡ true
  pub good_reply : reply ≡ true

pub five_none : (area zero long moment reply : Bool) → five area zero long moment reply None ≡ None → Five area zero long moment reply
five_none true false false true true h = record { area_there = refl; no_zero = refl; short = refl; in_range = refl; good_reply = refl }
five_none true false false true false h = absurd (cc)
five_none true false false false reply h = absurd (cc)
five_none true false true moment reply h = absurd (cc)
five_none true true long moment reply h = absurd (cc)
five_none false zero long moment reply h = absurd (cc)

five_past : (area zero long moment reply : Bool) (rest : Option PostFault) → five area zero long moment reply None ≡ None → five area zero long moment reply rest ≡ rest
five_past true false false true true rest h = refl
five_past true false false true false rest h = absurd (cc)
five_past true false false false reply rest h = absurd (cc)
five_past true false true moment reply rest h = absurd (cc)
five_past true true long moment reply rest h = absurd (cc)
five_past false zero long moment reply rest h = absurd (cc)

abbrev known_serial : LinkFile → List Filed → ℕ → Option PostFault
known_serial file base serial = if list_any (has_id (id_of file.system serial)) base then Some fault.KnownSerial else None

pub draft_refused : (file : LinkFile) (base : List Filed) (tag : List ℕ) (draft : Draft) (serial : ℕ) (stamp : Stamp) (f : PostFault)
    → draft_refusal file tag draft stamp ≡ Some f → post_refusal file base tag draft serial stamp ≡ Some f
unfolding post_refusal
draft_refused file base tag draft serial stamp f h =
    five_some (has_area file (upper tag)) (holds_zero draft) (is_too_long draft) (is_stamp stamp) ((length draft.reply == 0) || is_reply_id draft.reply) (known_serial file base serial) f h

pub draft_passes : (file : LinkFile) (base : List Filed) (tag : List ℕ) (draft : Draft) (serial : ℕ) (stamp : Stamp) (known : Bool)
    → draft_refusal file tag draft stamp ≡ None → list_any (has_id (id_of file.system serial)) base ≡ known
    → post_refusal file base tag draft serial stamp ≡ (if known then Some fault.KnownSerial else None)
unfolding post_refusal
draft_passes file base tag draft serial stamp known h is = grind (arith, five_past)

pub draft_allowed : (file : LinkFile) (base : List Filed) (tag : List ℕ) (draft : Draft) (serial : ℕ) (stamp : Stamp)
    → draft_refusal file tag draft stamp ≡ None → list_any (has_id (id_of file.system serial)) base ≡ false → IsAllowed file base tag draft serial stamp
draft_allowed file base tag draft serial stamp h new = grind (arith, five_none)

pub is_fault : (file : LinkFile) (base : List Filed) (tag : List ℕ) (draft : Draft) (serial : ℕ) (stamp : Stamp) (f : PostFault)
    → post_refusal file base tag draft serial stamp ≡ Some f → IsPostFault file base tag draft serial stamp f
is_fault file base tag draft serial stamp fault.NoArea h = h
is_fault file base tag draft serial stamp fault.ByteZero h = h
is_fault file base tag draft serial stamp fault.FieldTooLong h = h
is_fault file base tag draft serial stamp fault.BadStamp h = h
is_fault file base tag draft serial stamp fault.BadReply h = h
is_fault file base tag draft serial stamp fault.KnownSerial h = h
is_fault file base tag draft serial stamp fault.Memory h = absurd ((refusal_first file base tag draft serial stamp fault.Memory).0 h)

pub memory_fault : (file : LinkFile) (base : List Filed) (tag : List ℕ) (draft : Draft) (serial : ℕ) (stamp : Stamp)
    → draft_refusal file tag draft stamp ≡ None → IsPostFault file base tag draft serial stamp fault.Memory
memory_fault file base tag draft serial stamp h = grind (arith, cases_Bool, draft_passes)

pub prepared : (file : LinkFile) (base : List Filed) (tag : List ℕ) (draft : Draft) (serial : ℕ) (stamp : Stamp) (key : Key) (m : Filed) → IsFile file
    → draft_refusal file tag draft stamp ≡ None → list_any (has_id (id_of file.system serial)) base ≡ false → key ≡ key_of m → m ≡ posted file tag draft serial stamp
    → IsPrepared file base tag draft serial stamp key m
prepared file base tag draft serial stamp key m is h new own made = grind (arith, draft_passes, posted_new, draft_allowed)
