use Rattle.model_run.proofs.Filings.{run-from}
use Rattle.model_run.proofs.stranger_laws.only_postings_and_copies_from_links_are_filed.Goals as goal

pub returns : goal.returns
returns c = run-from
