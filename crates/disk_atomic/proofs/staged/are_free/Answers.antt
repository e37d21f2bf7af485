use Rattle.std.proofs.{Common.get_or, Common.arith, lemmas.List.get_or_default, lemmas.List.Elements.at_read, lemmas.List.Elements.AllWithin-more}
use Rattle.disk_io.proofs.Moments.{nothing_twice}
use Rattle.disk_atomic.proofs.Whole.{none_is_not_there, not_there}
use Rattle.disk_atomic.proofs.staged.are_free.Goals as goal

pub packets-preserved : goal.packets-preserved
packets-preserved g c = grind (arith, get_or, get_or_default, nothing_twice, not_there, AllWithin-more, at_read)

pub returns-then-branch-clause-taken : goal.returns-then-branch-clause-taken
returns-then-branch-clause-taken g c honest is all = grind (arith, get_or, none_is_not_there)
