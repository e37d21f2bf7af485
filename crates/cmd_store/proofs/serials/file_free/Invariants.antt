use Rattle.cmd_store.proofs.FreePostings.{HasLooked}
use Rattle.cmd_store.proofs.serials.file_free.Given as goal

abbrev pub invariant-serials : goal.invariant-serials
invariant-serials g l =
    HasLooked l.links (g.T.Store.state l.initial.store) (g.T.Store.state l.store) (g.T.Store.failures l.initial.store) (g.T.Store.failures l.store) l.words.serial l.serial l._steps
