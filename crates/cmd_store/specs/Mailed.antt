-- The words that post a mail.
use Rattle.std.specs.Prelude.{◌≡◌}
use Rattle.cmd_store.specs.declared.{drafting.NewMessage.NewMessage, letter.Letter.Letter, mailed.MailWords.MailWords}

pub record IsPosting (letter : Letter) (asked : MailWords) (words : NewMessage) : Type 0 where
  pub tag : words.tag.now ≡ letter.tag
  pub to_name : words.to_name.now ≡ letter.to_name
  pub from_name : words.from_name.now ≡ letter.from_name
  pub subject : words.subject.now ≡ letter.subject
  pub reply : words.reply.now ≡ letter.reply
  pub serial : words.serial ≡ asked.serial
  pub stamp : words.stamp ≡ asked.stamp
