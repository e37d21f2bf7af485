use Rattle.base_file.proofs.Failing.{only_answer}
use Rattle.base_file.proofs.base.Base.load.Goals as goal

pub returns-clause-only : goal.returns-clause-only
returns-clause-only g c = λ other. only_answer _ _ c.read_base.result other c.read_base.ensures.taken c.read_base.ensures.fault
