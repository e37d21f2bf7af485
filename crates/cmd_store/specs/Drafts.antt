-- The draft that the words and the body of `post` make, and why it is refused.
use Rattle.std.specs.Prelude.{ℕ, ◌==◌, List, [], ◌∷◌, ◌++◌, if◌then◌else◌, Option}
use Rattle.model_steps.specs.declared.{draft.Draft.Draft, fault.PostFault.PostFault}
use Rattle.{model_steps.specs.{Posting.post_refusal, SystemState.SystemState}, cmd_store.specs.declared.drafting.NewMessage.NewMessage}

-- The bytes of the draft for a byte of the body: 0A becomes 0D, or nothing after a 0D.
abbrev pub draft_byte : ℕ → ℕ → List ℕ
draft_byte before byte = if byte == 10 then (if before == 13 then [] else 13 ∷ []) else byte ∷ []

abbrev pub draft_after : ℕ → List ℕ → List ℕ
draft_after before [] = []
draft_after before (byte ∷ later) = draft_byte before byte ++ draft_after byte later

-- The body of the draft: lines that end in 0A or 0D 0A end in 0D.
abbrev pub draft_body : List ℕ → List ℕ
draft_body body = draft_after 0 body

abbrev pub draft_given : NewMessage → List ℕ → Draft
draft_given words body = record {
  to_name = words.to_name.now;
  from_name = words.from_name.now;
  subject = words.subject.now;
  reply = words.reply.now;
  body = draft_body body;
}

-- The first refusal that applies, or `None`.
abbrev pub refusal_given : SystemState → NewMessage → List ℕ → Option PostFault
refusal_given system words body = post_refusal system.file system.base words.tag.now (draft_given words body) words.serial words.stamp
