use Rattle.std.proofs.Common.{arith}
use Rattle.base_folder_store.proofs.{Claimed.{IsClaim, claim_commits, claim_goes_on, claim_cached, claim_keeps}, WhereSo.{goes_where, nothing_where}}
use Rattle.base_folder_store.proofs.folder_store.FolderStore.claim.Goals as goal

pub returns-clause-keeps : goal.returns-clause-keeps
returns-clause-keeps g c = λ honest base holds.
    let s = c.args.self.now in
    let claim : IsClaim s.folder c.claim.new.self c.args.mark c.claim.result = record { claimed = c.claim.ensures.claimed; refused = c.claim.ensures.refused } in
    claim_keeps g.H.Digest.keyed g.met.H.Digest.fits (g.D.Disk.state s.disk) s.folder c.claim.new.self c.args.mark c.claim.result base claim (c.requires.0.opened honest) holds

pub returns-clause-goes_on : goal.returns-clause-goes_on
returns-clause-goes_on g c = grind (arith, IsClaim, goes_where, claim_goes_on, claim_cached)

pub returns-clause-commits : goal.returns-clause-commits
returns-clause-commits g c = grind (arith, IsClaim, nothing_where, claim_commits)
