-- The text_refusal of a posting, and the outcome of a toss, are the first that apply.
use Rattle.std.{proofs.Common.{◌≡◌, ℕ, ◌==◌, ◌||◌, ◌↔◌, Bool, true, false, cond, not, List, length, Option, Some, None, arith}, specs.List.list_any}
use Rattle.echo_addr.specs.declared.address.Address.{Address}
use Rattle.echo_packet.specs.Message.{Message}
use Rattle.echo_text.specs.{Lines.{area_tag, first_line, is_area, is_tag, lines}, declared.fault.TextFault.TextFault, Refusal.text_refusal, Ids.id_of}
use Rattle.echo_text.specs.declared.fault.TextFault.TheVariants as text
use Rattle.model_steps.{specs.Posting.{IsAllowed, IsFirstRefusal, has_id, holds_zero, is_too_long, post_refusal}, proofs.Posted.allowed}
use Rattle.model_steps.specs.{declared.draft.Draft.Draft, declared.stamp.Stamp.Stamp, declared.fault.PostFault.PostFault, declared.outcome.Outcome.Outcome, ReplyIds.is_reply_id, Stamps.is_stamp}
use Rattle.model_steps.specs.Tossing.{IsOutcome, outcome_after, received, toss_outcome}
use Rattle.model_steps.specs.declared.fault.PostFault.TheVariants as fault
use Rattle.model_steps.specs.declared.outcome.Outcome.TheVariants as outcome
use Rattle.echo_links.specs.Links.{LinkFile, has_area, is_link, upper}
use Rattle.echo_filed.{specs.{Written.echo_of, Filed.{Filed, key_of}}, proofs.Choices.same_some}
use Rattle.base_file.specs.Base.{is_known}

abbrev chain : Bool → Bool → Bool → Bool → Bool → Bool → Option PostFault
chain area zero long moment reply known =
    cond (not area) (Some fault.NoArea)
    (cond zero (Some fault.ByteZero)
    (cond long (Some fault.FieldTooLong)
    (cond (not moment) (Some fault.BadStamp) (cond (not reply) (Some fault.BadReply) (cond known (Some fault.KnownSerial) None)))))

abbrev First : Bool → Bool → Bool → Bool → Bool → Bool → PostFault → Type 0
First area zero long moment reply known fault.NoArea = area ≡ false
First area zero long moment reply known fault.ByteZero = (area ≡ true) × (zero ≡ true)
First area zero long moment reply known fault.FieldTooLong = (area ≡ true) × (zero ≡ false) × (long ≡ true)
First area zero long moment reply known fault.BadStamp = (area ≡ true) × (zero ≡ false) × (long ≡ false) × (moment ≡ false)
First area zero long moment reply known fault.BadReply = (area ≡ true) × (zero ≡ false) × (long ≡ false) × (moment ≡ true) × (reply ≡ false)
First area zero long moment reply known fault.KnownSerial = (area ≡ true) × (zero ≡ false) × (long ≡ false) × (moment ≡ true) × (reply ≡ true) × (known ≡ true)
First area zero long moment reply known fault.Memory = ⊥

chain_first : (area zero long moment reply known : Bool) (f : PostFault) → chain area zero long moment reply known ≡ Some f → First area zero long moment reply known f
chain_first area zero long moment reply known f h1 = grind (arith, same_some)

first_chain : (area zero long moment reply known : Bool) (f : PostFault) → First area zero long moment reply known f → chain area zero long moment reply known ≡ Some f
first_chain area zero long moment reply known f h1 = grind arith

to_first : (file : LinkFile) (base : List Filed) (tag : List ℕ) (draft : Draft) (serial : ℕ) (stamp : Stamp) (f : PostFault)
    → First (has_area file (upper tag)) (holds_zero draft) (is_too_long draft) (is_stamp stamp) ((length draft.reply == 0) || is_reply_id draft.reply) (list_any (has_id (id_of file.system serial)) base) f
    → IsFirstRefusal file base tag draft serial stamp f
to_first file base tag draft serial stamp f h1 = grind arith

of_first : (file : LinkFile) (base : List Filed) (tag : List ℕ) (draft : Draft) (serial : ℕ) (stamp : Stamp) (f : PostFault)
    → IsFirstRefusal file base tag draft serial stamp f
    → First (has_area file (upper tag)) (holds_zero draft) (is_too_long draft) (is_stamp stamp) ((length draft.reply == 0) || is_reply_id draft.reply) (list_any (has_id (id_of file.system serial)) base) f
of_first file base tag draft serial stamp f h1 = grind arith

pub refusal_first : (file : LinkFile) (base : List Filed) (tag : List ℕ) (draft : Draft) (serial : ℕ) (stamp : Stamp) (f : PostFault)
    → (post_refusal file base tag draft serial stamp ≡ Some f) ↔ IsFirstRefusal file base tag draft serial stamp f
unfolding post_refusal
refusal_first file base tag draft serial stamp f = grind (arith, to_first, chain_first, first_chain, of_first)

pub refusal_none : (file : LinkFile) (base : List Filed) (tag : List ℕ) (draft : Draft) (serial : ℕ) (stamp : Stamp)
    → (post_refusal file base tag draft serial stamp ≡ None) ↔ IsAllowed file base tag draft serial stamp
unfolding post_refusal
refusal_none file base tag draft serial stamp = grind (arith, allowed)

IsOfText : Option TextFault → Type 0
IsOfText (Some text.Memory) = ⊥
IsOfText (Some text.BadMsgId) = ⊥
IsOfText _ = Unit {0}

two_refusals : (area tagged : Bool) → IsOfText (cond (not area) (Some text.NotEcho) (cond (not tagged) (Some text.BadTag) None))
unfolding IsOfText
two_refusals area tagged = grind arith

of_text : (bytes : List ℕ) → IsOfText (text_refusal bytes)
unfolding text_refusal
of_text bytes = two_refusals (is_area (first_line (lines bytes))) (is_tag (area_tag (first_line (lines bytes))))

abbrev outcomes_chain : Bool → Bool → Bool → Outcome
outcomes_chain area link known = cond (not area) outcome.NoArea (cond (not link) outcome.NotLinked (cond known outcome.Known outcome.Filed))

abbrev FirstOutcome : Option TextFault → Bool → Bool → Bool → Outcome → Type 0
FirstOutcome refused area link known outcome.NotEcho = refused ≡ Some text.NotEcho
FirstOutcome refused area link known outcome.BadTag = refused ≡ Some text.BadTag
FirstOutcome refused area link known outcome.NoArea = (refused ≡ None) × (area ≡ false)
FirstOutcome refused area link known outcome.NotLinked = (refused ≡ None) × (area ≡ true) × (link ≡ false)
FirstOutcome refused area link known outcome.Known = (refused ≡ None) × (area ≡ true) × (link ≡ true) × (known ≡ true)
FirstOutcome refused area link known outcome.Filed = (refused ≡ None) × (area ≡ true) × (link ≡ true) × (known ≡ false)

abbrev after_refusal : Option TextFault → Outcome → Outcome
after_refusal None rest = rest
after_refusal (Some text.NotEcho) rest = outcome.NotEcho
after_refusal (Some refused) rest = outcome.BadTag

outcome_first : (refused : Option TextFault) (area link known : Bool) (o : Outcome) → IsOfText refused → after_refusal refused (outcomes_chain area link known) ≡ o → FirstOutcome refused area link known o
unfolding IsOfText
outcome_first refused area link known o h1 h2 = grind arith

first_outcome : (refused : Option TextFault) (area link known : Bool) (o : Outcome) → FirstOutcome refused area link known o → after_refusal refused (outcomes_chain area link known) ≡ o
first_outcome refused area link known o h1 = grind arith

to_outcome : (file : LinkFile) (base : List Filed) (from : Address) (packed : Message) (o : Outcome)
    → FirstOutcome (text_refusal packed.text) (has_area file (echo_of packed.text).tag) (is_link file (echo_of packed.text).tag from) (is_known base (key_of (received from packed))) o
    → IsOutcome file base from packed o
to_outcome file base from packed o h1 = grind arith

of_outcome : (file : LinkFile) (base : List Filed) (from : Address) (packed : Message) (o : Outcome) → IsOutcome file base from packed o
    → FirstOutcome (text_refusal packed.text) (has_area file (echo_of packed.text).tag) (is_link file (echo_of packed.text).tag from) (is_known base (key_of (received from packed))) o
of_outcome file base from packed o h1 = grind arith

one_spelling : (file : LinkFile) (base : List Filed) (from : Address) (packed : Message) (refused : Option TextFault)
    → outcome_after file base from (received from packed) refused
    ≡ after_refusal refused (outcomes_chain (has_area file (echo_of packed.text).tag) (is_link file (echo_of packed.text).tag from) (is_known base (key_of (received from packed))))
unfolding received
one_spelling file base from packed refused = grind arith

pub outcome_is_first : (file : LinkFile) (base : List Filed) (from : Address) (packed : Message) (o : Outcome)
    → (toss_outcome file base from packed ≡ o) ↔ IsOutcome file base from packed o
unfolding toss_outcome
outcome_is_first file base from packed o = grind (arith, one_spelling, to_outcome, outcome_first, of_text, first_outcome, of_outcome)
