-- Why a mail is not posted, and the exit status for that.
use Rattle.{echo_mail.specs.declared.fault.MailFault.MailFault, cmd_store.specs.declared.fault.LetterFault.{LetterFault, TheVariants.{Mail, Memory}}}
use Rattle.cmd_status.specs.declared.status.Status.{Status, TheVariants.{Device, Refused}}
use Rattle.echo_mail.specs.declared.fault.MailFault.TheVariants as mail

abbrev pub letter_fault : MailFault → LetterFault
letter_fault mail.Memory = Memory
letter_fault why = Mail why

-- The exit status: 3 if memory ran out, otherwise 2.
abbrev pub letter_status : LetterFault → Status
letter_status Memory = Device
letter_status _ = Refused
