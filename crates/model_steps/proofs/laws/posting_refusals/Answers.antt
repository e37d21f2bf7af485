use Rattle.model_steps.proofs.FirstRefusals.{refusal_first, refusal_none}
use Rattle.model_steps.proofs.laws.posting_refusals.Goals as goal

pub returns-clause-refused : goal.returns-clause-refused
returns-clause-refused c = refusal_first

pub returns-clause-filed : goal.returns-clause-filed
returns-clause-filed c = refusal_none
