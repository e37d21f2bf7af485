use Rattle.model_steps.proofs.FirstRefusals.{outcome_is_first}
use Rattle.model_steps.proofs.laws.toss_outcomes.Goals as goal

pub returns : goal.returns
returns c = outcome_is_first
