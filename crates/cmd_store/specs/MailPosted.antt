-- Posting a mail on a store.
use Rattle.std.specs.Prelude.{Result}
use Rattle.{base_file.specs.Base.Base, echo_links.specs.Links.LinkFile}
use Rattle.{cmd_status.specs.Devices.Output, model_steps.specs.SystemState.SystemState, cmd_store.specs.declared.drafting.NewMessage.NewMessage}
use Rattle.cmd_store.specs.{FreeSerial.{PostsAs, PostsAsOn}, declared.command_error.CommandError.CommandError}
use Rattle.cmd_store.specs.{declared.{letter.Letter.Letter, mailed.MailWords.MailWords}, Mailed.IsPosting}

-- The correct result of posting the letter at a system.
pub record MailsOn {A : Type 0} (letter : Letter) (asked : MailWords) (system : SystemState) (old new : Output) (result : Result A CommandError) : Type 0 where
  pub words : NewMessage
  pub posting : IsPosting letter asked words
  pub posted : PostsAsOn asked.free words system letter.body old new result

-- The posting of the letter makes the base `next` of another.
pub record Mails (file : LinkFile) (letter : Letter) (asked : MailWords) (base next : Base) : Type 0 where
  pub words : NewMessage
  pub posting : IsPosting letter asked words
  pub made : PostsAs asked.free file words letter.body base next
