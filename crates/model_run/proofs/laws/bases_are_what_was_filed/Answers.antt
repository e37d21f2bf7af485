use Rattle.model_run.proofs.{TosserLaws.the_laws, Bases.Kept-at, Bases.Kept-length, Bases.Kept-waiting, EachSystem.run-kept}
use Rattle.model_run.proofs.laws.bases_are_what_was_filed.Goals as goal

pub returns : goal.returns
returns c = record {
  places = λ files events s h i m filed e f. (Kept-at s.cursor s.base s.history (run-kept the_laws files events s h) i m filed e f).form;
  number = λ files events s h. Kept-length s.cursor s.base s.history (run-kept the_laws files events s h);
  waiting = λ files events s h. Kept-waiting s.cursor s.base s.history (run-kept the_laws files events s h);
}
