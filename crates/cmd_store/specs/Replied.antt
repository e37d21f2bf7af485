-- An answer to a message in a store.
use Rattle.std.specs.Prelude.{◌≡◌, ℕ, ◌⊎◌, List, Option, Some, None, slice_get, Result, Ok, Err}
use Rattle.{base_file.specs.Base.Base, echo_filed.specs.Filed.Filed}
use Rattle.{echo_links.specs.Links.LinkFile, cmd_status.specs.{declared.fault.Fault.TheVariants.BadNumber, Devices.Output, Ended.IsOutOfMemory}}
use Rattle.{model_steps.specs.SystemState.SystemState, cmd_store.specs.declared.{drafting.NewMessage.NewMessage, answering.Answer.Answer}}
use Rattle.cmd_store.specs.{declared.answering.ReplyFields.ReplyFields, AnswerWords.{IsFound, IsReply}, Answered.StopsFirst}
use Rattle.cmd_store.specs.declared.command_error.CommandError.{CommandError, TheVariants.{Met, Store}}
pub use Rattle.cmd_store.specs.FreeSerial.{PostsAs, PostsAsOn}

-- The words that the message gives, or why there are no words: no such message, no memory, or a failed store.
abbrev pub FindsOn : Option Filed → Result ReplyFields CommandError → Type 0
FindsOn None (Err (Met fault)) = fault ≡ BadNumber
FindsOn None other = ⊥
FindsOn (Some m) (Ok found) = IsFound m found
FindsOn (Some m) (Err (Met fault)) = IsOutOfMemory fault
FindsOn (Some m) (Err (Store cause)) = Unit {0}

-- The words of an answer are posted.
pub record PostsReplyOn {A : Type 0} (m : Filed) (answer : Answer) (system : SystemState) (body : List ℕ) (old new : Output) (result : Result A CommandError) : Type 0 where
  pub words : NewMessage
  pub of_message : IsReply m answer words
  pub posted : PostsAsOn answer.free words system body old new result

abbrev pub HasNoneOn : {A : Type 0} → Output → Output → Result A CommandError → Type 0
HasNoneOn old new (Err (Met fault)) = (fault ≡ BadNumber) × (new ≡ old)
HasNoneOn old new other = ⊥

abbrev pub RepliesOn : {A : Type 0} → Option Filed → Answer → SystemState → List ℕ → Output → Output → Result A CommandError → Type 0
RepliesOn None answer system body old new result = HasNoneOn old new result
RepliesOn (Some m) answer system body old new result = StopsFirst old new result ⊎ PostsReplyOn m answer system body old new result

-- The answer to the message of this number makes the base `next` of another.
pub record Replies (file : LinkFile) (index : ℕ) (answer : Answer) (body : List ℕ) (base next : Base) : Type 0 where
  pub message : Filed
  pub found : slice_get base.messages index ≡ Some message
  pub words : NewMessage
  pub of_message : IsReply message answer words
  pub made : PostsAs answer.free file words body base next
