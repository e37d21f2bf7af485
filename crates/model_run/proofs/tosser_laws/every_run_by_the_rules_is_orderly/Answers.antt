use Rattle.std.proofs.Common.{IsTrue}
use Rattle.model_run.proofs.Eras.{every_run-orderly}
use Rattle.model_run.proofs.tosser_laws.every_run_by_the_rules_is_orderly.Goals as goal

pub returns : goal.returns
returns g c = λ can can_keys net tidy same compares run. every_run-orderly can can_keys net tidy (λ a b. IsTrue (same a b)) compares run
