use Rattle.model_steps.proofs.{Kept.posting_keeps, Kept.tossing_keeps, Purged.purge_keeps}
use Rattle.model_steps.proofs.laws.base_laws.Goals as goal

pub returns-clause-posted : goal.returns-clause-posted
returns-clause-posted c = posting_keeps

pub returns-clause-tossed : goal.returns-clause-tossed
returns-clause-tossed c = tossing_keeps

pub returns-clause-purged : goal.returns-clause-purged
returns-clause-purged c = purge_keeps
