use Rattle.model_run.proofs.{TosserLaws.the_laws, Changes.run-orderly}
use Rattle.model_run.proofs.laws.every_run_of_a_tidy_area_is_orderly.Goals as goal

pub returns : goal.returns
returns c = run-orderly the_laws
