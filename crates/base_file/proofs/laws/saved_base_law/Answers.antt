use Rattle.base_file.proofs.Saved.{saved_is_base, saved_loads}
use Rattle.base_file.proofs.laws.saved_base_law.Goals as goal

pub returns-clause-base : goal.returns-clause-base
returns-clause-base c = saved_is_base

pub returns-clause-read_back : goal.returns-clause-read_back
returns-clause-read_back c = saved_loads
