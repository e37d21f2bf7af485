use Rattle.echo_nodelist.proofs.{Clean.good_lines, OneNodelist.none_faulty, OneNodelist.same_fault, OneNodelist.same_nodelist}
use Rattle.echo_nodelist.proofs.laws.one_nodelist.Goals as goal

pub returns-clause-same : goal.returns-clause-same
returns-clause-same c = same_nodelist

pub returns-clause-faulty : goal.returns-clause-faulty
returns-clause-faulty c = none_faulty

pub returns-clause-fault : goal.returns-clause-fault
returns-clause-fault c = same_fault

pub returns-clause-whole : goal.returns-clause-whole
returns-clause-whole c = good_lines
