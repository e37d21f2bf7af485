use Rattle.model_run.proofs.{TosserLaws.the_laws, Filings.run-new, Filings.run-posted, SentSoFar.run-due}
use Rattle.model_run.proofs.stranger_laws.what_is_due_is_filed.Goals as goal

pub returns : goal.returns
returns c = record { postings = run-posted; from_links = run-due the_laws; new_keys = run-new }
