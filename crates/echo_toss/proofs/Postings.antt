-- Why a posting is refused, in terms of its rule.
use Rattle.std.proofs.Common.{◌≡◌, ◌⊎◌, ℕ, List, refl, sym, ap, ◌∙◌, inl, inr, Option, Some, None}
use Rattle.echo_links.specs.Links.{LinkFile}
use Rattle.echo_filed.specs.Filed.{Filed}
use Rattle.model_steps.specs.{declared.draft.Draft.Draft, declared.stamp.Stamp.Stamp, declared.fault.PostFault.PostFault, Posting.post_refusal}
use Rattle.model_steps.proofs.FirstRefusals.{refusal_first}
use Rattle.model_steps.specs.declared.fault.PostFault.TheVariants as fault
use Rattle.echo_steps.{specs.{declared.refusing.ReplyRule.ReplyRule, Refusals.draft_refusal_by, Refusals.refusal_by}, proofs.Replies.{never_memory, refused_by, same_refusal}}
use Rattle.echo_toss.specs.Steps.{IsFaultOf}

refusal : (first : Option PostFault) (f : PostFault) → (f ≡ fault.Memory → ⊥) → first ≡ Some f → IsFaultOf first f
refusal first fault.Memory other h = absurd (other refl)
refusal first fault.NoArea other h = h
refusal first fault.ByteZero other h = h
refusal first fault.FieldTooLong other h = h
refusal first fault.BadStamp other h = h
refusal first fault.BadReply other h = h
refusal first fault.KnownSerial other h = h

-- the draft is refused by the link file or by itself
pub refused_draft : (rule : ReplyRule) (file : LinkFile) (base : List Filed) (tag : List ℕ) (draft : Draft) (serial : ℕ) (stamp : Stamp) (f : PostFault)
    → draft_refusal_by rule file tag draft stamp ≡ Some f → IsFaultOf (refusal_by rule file base tag draft serial stamp) f
refused_draft rule file base tag draft serial stamp f h =
    refusal (refusal_by rule file base tag draft serial stamp) f (λ memory. never_memory rule file tag draft stamp (h ∙ ap Some memory))
    (refused_by rule file base tag draft serial stamp f h)

-- a draft that passes is refused by the base
pub refused_serial : (rule : ReplyRule) (file : LinkFile) (base : List Filed) (tag : List ℕ) (draft : Draft) (serial : ℕ) (stamp : Stamp) (f : PostFault)
    → draft_refusal_by rule file tag draft stamp ≡ None → post_refusal file base tag draft serial stamp ≡ Some f → IsFaultOf (refusal_by rule file base tag draft serial stamp) f
refused_serial rule file base tag draft serial stamp f passes h =
    refusal (refusal_by rule file base tag draft serial stamp) f
    (λ memory. (refusal_first file base tag draft serial stamp fault.Memory).0 (h ∙ ap Some memory))
    (same_refusal rule file base tag draft serial stamp passes ∙ h)

-- memory was refused for a draft that passes
pub refused_memory : (rule : ReplyRule) (file : LinkFile) (base : List Filed) (tag : List ℕ) (draft : Draft) (serial : ℕ) (stamp : Stamp)
    → draft_refusal_by rule file tag draft stamp ≡ None
    → (post_refusal file base tag draft serial stamp ≡ None) ⊎ (post_refusal file base tag draft serial stamp ≡ Some fault.KnownSerial)
    → IsFaultOf (refusal_by rule file base tag draft serial stamp) fault.Memory
refused_memory rule file base tag draft serial stamp passes h =
    let same = same_refusal rule file base tag draft serial stamp passes in
    elim h [
      | inl none ↦ inl (same ∙ none)
      | inr known ↦ inr (same ∙ known)
    ]
