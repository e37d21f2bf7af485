use Rattle.std.proofs.Common.{[], sym, subst}
use Rattle.echo_addr.specs.ShortLines.{ShortLines}
use Rattle.echo_addr.proofs.{Runs.one_spelling, Runs.nothing_written, Runs.ShortLines-nil, Spellings.every_list}
use Rattle.echo_addr.proofs.laws.one_spelling.Goals as goal

pub returns-clause-same : goal.returns-clause-same
returns-clause-same c = one_spelling

pub returns-clause-none : goal.returns-clause-none
returns-clause-none c = λ prefix b. (nothing_written prefix b, λ e. subst (ShortLines prefix []) (sym e) (ShortLines-nil prefix))

pub returns-clause-some : goal.returns-clause-some
returns-clause-some c = every_list
