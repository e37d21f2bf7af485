use Rattle.echo_links.proofs.LinkAnswers.{link_answer, link_answered, link_only, no_memory_fault}
use Rattle.echo_links.proofs.laws.one_link_file_or_fault.Goals as goal

pub returns-clause-answered : goal.returns-clause-answered
returns-clause-answered c = λ bytes. (link_answer bytes, link_answered bytes, link_only bytes)

pub returns-clause-no_memory : goal.returns-clause-no_memory
returns-clause-no_memory c = no_memory_fault
