use Rattle.model_run.proofs.{TosserLaws.the_laws, NewPostings.posting-new}
use Rattle.model_run.proofs.epoch_laws.postings_are_new.Goals as goal

pub returns : goal.returns
returns c = posting-new the_laws
