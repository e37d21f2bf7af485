use Rattle.echo_text.proofs.LastLines.{start_first, start_found}
use Rattle.echo_text.proofs.lines.last_line_start.Goals as goal

pub returns-in-Some-clause-before : goal.returns-in-Some-clause-before
returns-in-Some-clause-before c = (start_found c.args.text.now c.in-Some.at c.requires c.in-Some.ensures).before

pub returns-in-Some-clause-last : goal.returns-in-Some-clause-last
returns-in-Some-clause-last c = (start_found c.args.text.now c.in-Some.at c.requires c.in-Some.ensures).last

pub returns-in-None-clause-before : goal.returns-in-None-clause-before
returns-in-None-clause-before c = (start_first c.args.text.now c.requires c.in-None.ensures).before

pub returns-in-None-clause-last : goal.returns-in-None-clause-last
returns-in-None-clause-last c = (start_first c.args.text.now c.requires c.in-None.ensures).last
