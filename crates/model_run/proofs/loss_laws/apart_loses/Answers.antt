use Rattle.model_run.proofs.{Apart.never, OneSided.lost}
use Rattle.model_run.proofs.loss_laws.apart_loses.Goals as goal

pub returns : goal.returns
returns c = record {
  never = never;
  harm = λ files tag fit a b apart carries. lost files tag a b (never files tag fit a b apart) carries;
}
