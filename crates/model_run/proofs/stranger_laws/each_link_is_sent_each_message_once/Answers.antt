use Rattle.std.proofs.Common.{arith}
use Rattle.model_run.proofs.{SentSoFar.{end-ok, end-sent, owed-back, owed-there, scan-sends, sent-once, sent-others, sent-owed, sent-waiting}, TosserLaws.the_laws}
use Rattle.model_run.proofs.stranger_laws.each_link_is_sent_each_message_once.Goals as goal

pub returns : goal.returns
returns c = grind (arith, sent-once, the_laws, end-ok, end-sent, sent-owed, owed-there, sent-others, owed-back, sent-waiting, scan-sends)
