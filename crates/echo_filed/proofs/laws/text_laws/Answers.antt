use Rattle.echo_filed.proofs.Texts.{says_accepted, says_one, says_read, text_is_text, written_accepted, written_back, written_says}
use Rattle.echo_filed.proofs.laws.text_laws.Goals as goal

pub returns-clause-said : goal.returns-clause-said
returns-clause-said c = says_read

pub returns-clause-only_said : goal.returns-clause-only_said
returns-clause-only_said c = λ text e dropped h. (says_accepted text e dropped h, says_one text e dropped h)

pub returns-clause-written : goal.returns-clause-written
returns-clause-written c = text_is_text

pub returns-clause-read_back : goal.returns-clause-read_back
returns-clause-read_back c = λ e h. (written_accepted e h, written_back e h)

pub returns-clause-whole : goal.returns-clause-whole
returns-clause-whole c = written_says
