use Rattle.std.proofs.Common.{◌≡◌, ℕ, List, [], sym, subst, rules}
use Rattle.disk_atomic.specs.{ListStaged.AreListed, declared.listing.StagedPacket.StagedPacket}
use Rattle.law_session.specs.declared.session.TheConstants.{SECOND_OUT}
use Rattle.law_session.proofs.in_memory.NoneStagedListStaged.left_staged.Goals as goal

pub returns-clause-listed : goal.returns-clause-listed
returns-clause-listed c files none =
    let same : c.args.folder.now ≡ SECOND_OUT.now = search rules in
    let own = c.args._own.now in
    subst (λ (found : List StagedPacket). AreListed c.args.folder.now own files found) (sym c.new.ensures.items)
    (subst (λ (folder : List ℕ). AreListed folder own files []) (sym same) (none own))
