-- The command events that a command may be, if that depends on the base.
use Rattle.std.specs.Prelude.{◌≡◌, ℕ, Bool, true, false, List, Some, slice_get}
use Rattle.{base_file.specs.Base.Base, echo_filed.specs.Filed.Filed}
use Rattle.cmd_store.specs.{declared.{drafting.NewMessage.NewMessage, answering.Answer.Answer, letter.Letter.Letter}, AnswerWords.IsReply}
use Rattle.{cmd_store.specs.{declared.mailed.MailWords.MailWords, Mailed.IsPosting}, law_stations.specs.{Commands.Command, Kinds.{IsPost, IsPostWith}}}

-- The posting of these words; if a free serial is searched, with some serial.
abbrev pub IsPostAs : Bool → NewMessage → List ℕ → Command → Type 0
IsPostAs false words body command = IsPost words body command
IsPostAs true words body command = IsPostWith words body command

-- The posting of an answer to the message with this number.
pub record IsReplyAs (index : ℕ) (answer : Answer) (body : List ℕ) (base : Base) (command : Command) : Type 0 where
  pub message : Filed
  pub found : slice_get base.messages index ≡ Some message
  pub words : NewMessage
  pub of_message : IsReply message answer words
  pub is : IsPostAs answer.free words body command

-- The posting of a letter.
pub record IsMail (letter : Letter) (asked : MailWords) (command : Command) : Type 0 where
  pub words : NewMessage
  pub posting : IsPosting letter asked words
  pub is : IsPostAs asked.free words letter.body command
