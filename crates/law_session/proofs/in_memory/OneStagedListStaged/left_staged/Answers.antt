use Rattle.std.proofs.Common.{◌≡◌, List, [], ◌∷◌, sym, subst, rules}
use Rattle.disk_atomic.specs.{ListStaged.AreListed, declared.listing.StagedPacket.StagedPacket}
use Rattle.law_session.specs.declared.session.TheConstants.{FIRST_OUT}
use Rattle.law_session.proofs.Names.{listed-one, one_staged}
use Rattle.law_session.proofs.in_memory.OneStagedListStaged.left_staged.Goals as goal

pub returns-clause-listed : goal.returns-clause-listed
returns-clause-listed c files lists =
    let same : c.args.folder.now ≡ FIRST_OUT.now = search rules in
    let found : c.push.new.self.items ≡ one_staged ∷ [] = search rules in
    subst (λ (l : List StagedPacket). AreListed c.args.folder.now c.args._own.now files l) (sym found) (listed-one c.args.folder.now c.args._own.now files same lists)
