-- A command on a store that holds too much.
use Rattle.std.specs.Prelude.{◌≡◌, ℕ, Bool, true, false, List}
use Rattle.{base_file.specs.Base.Base, disk_io.specs.Disk.Honestly}
use Rattle.{base_store.specs.Store.{CommitsNothing, MayCommit, StoreState}, echo_filed.specs.Filed.Filed, echo_links.specs.Links.LinkFile}
use Rattle.{echo_steps.specs.Bounds.IsPastBound, model_steps.specs.{declared.draft.Draft.Draft, Posting.posted}}
use Rattle.cmd_store.specs.{declared.{drafting.NewMessage.NewMessage, answering.Answer.Answer, letter.Letter.Letter}, Drafts.draft_given}
use Rattle.cmd_store.specs.{declared.mailed.MailWords.MailWords, Mailed.IsPosting}

-- The store was full, so a commit did nothing.
pub record IsUncommitted (old new : StoreState) : Type 0 where
  pub full : old.is_full
  pub commits : CommitsNothing old new

-- The store held too much for a command that may add these messages, and the command committed nothing.
pub record IsStoppedFull {T : Type 0} (state : T → StoreState) (Adds : Base → Filed → Type 0) (old new : StoreState) : Type 0 where
  pub past : IsPastBound state Adds old
  pub commits : CommitsNothing old new

-- A command may have committed the held base. Then the store held a base that the command makes of that, and was full.
-- `store` is the store at that time.
pub record IsFullOnceHeld {T : Type 0} (state : T → StoreState) (May : Base → Base → Type 0) (old : StoreState) : Type 0 where
  pub store : T
  pub commits : MayCommit old (state store)
  pub holds : Honestly (state store).disk ((base : Base) → old.keeps base → (next : Base) × May base next × (state store).keeps next)
  pub full : (state store).is_full

-- The store held too much for a command that may commit the base held before. The command committed no other base.
pub record IsStoppedHeld {T : Type 0} (state : T → StoreState) (May : Base → Base → Type 0) (old new : StoreState) : Type 0 where
  pub past : IsFullOnceHeld state May old
  pub commits : MayCommit old new

abbrev pub IsPast : {T : Type 0} → Bool → (T → StoreState) → (Base → Filed → Type 0) → (Base → Base → Type 0) → StoreState → Type 0
IsPast false state Adds May old = IsPastBound state Adds old
IsPast true state Adds May old = IsFullOnceHeld state May old

abbrev pub StaysTooMany : {T : Type 0} → Bool → (T → StoreState) → (Base → Filed → Type 0) → (Base → Base → Type 0) → StoreState → StoreState → Type 0
StaysTooMany false state Adds May old new = IsStoppedFull state Adds old new
StaysTooMany true state Adds May old new = IsStoppedHeld state May old new

-- The message of these words and this draft, with some serial.
abbrev pub AddsDraft : LinkFile → NewMessage → Draft → Base → Filed → Type 0
AddsDraft file words draft base m = (serial : ℕ) × (m ≡ posted file words.tag.now draft serial words.stamp)

abbrev pub AddsPosted : LinkFile → NewMessage → List ℕ → Base → Filed → Type 0
AddsPosted file words body base m = AddsDraft file words (draft_given words body) base m

-- A message with this body from the author of an answer.
abbrev pub AddsReply : LinkFile → Answer → List ℕ → Base → Filed → Type 0
AddsReply file answer body base m = (words : NewMessage) × (words.from_name.now ≡ answer.from_name.now) × (words.stamp ≡ answer.stamp) × AddsPosted file words body base m

abbrev pub AddsMailed : LinkFile → Letter → MailWords → Base → Filed → Type 0
AddsMailed file letter asked base m = (words : NewMessage) × IsPosting letter asked words × AddsPosted file words letter.body base m
