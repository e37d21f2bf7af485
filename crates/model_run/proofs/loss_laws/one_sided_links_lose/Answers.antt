use Rattle.model_run.proofs.OneSided.{lost, never}
use Rattle.model_run.proofs.loss_laws.one_sided_links_lose.Goals as goal

pub returns : goal.returns
returns c = record {
  never = never;
  harm = λ files tag fit one_file a b forth not_back carries. lost files tag a b (never files tag fit one_file a b forth not_back) carries;
}
