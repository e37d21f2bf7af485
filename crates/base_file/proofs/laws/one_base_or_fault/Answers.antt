use Rattle.base_file.proofs.{Loading.load_outcome, Loading.only_outcome, Loading.outcome_loads, OneBase.no_other_fault, OneBase.one_fault, OneBase.only_base, OneBase.only_length}
use Rattle.base_file.proofs.laws.one_base_or_fault.Goals as goal

pub returns-clause-answered : goal.returns-clause-answered
returns-clause-answered c = λ bytes are. (load_outcome bytes, outcome_loads bytes are, λ other h. only_outcome bytes are other h)

pub returns-clause-one_base : goal.returns-clause-one_base
returns-clause-one_base c = only_base

pub returns-clause-one_length : goal.returns-clause-one_length
returns-clause-one_length c = only_length

pub returns-clause-no_fault : goal.returns-clause-no_fault
returns-clause-no_fault c = no_other_fault

pub returns-clause-one_fault : goal.returns-clause-one_fault
returns-clause-one_fault c = one_fault
