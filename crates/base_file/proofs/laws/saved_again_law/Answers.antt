use Rattle.base_file.proofs.SavedAgain.{saved_again}
use Rattle.base_file.proofs.laws.saved_again_law.Goals as goal

pub returns-clause-countable : goal.returns-clause-countable
returns-clause-countable c = λ base cursor bytes h front. (saved_again base cursor bytes h front).countable

pub returns-clause-same : goal.returns-clause-same
returns-clause-same c = λ base cursor bytes h front. (saved_again base cursor bytes h front).same
