use Rattle.model_run.proofs.{TosserLaws.the_laws, SentAgain.sent-again}
use Rattle.model_run.proofs.laws.what_is_sent_again_was_sent.Goals as goal

pub returns : goal.returns
returns c = sent-again the_laws
