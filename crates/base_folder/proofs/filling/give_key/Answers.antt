use Rattle.{std.proofs.Common.arith, base_folder_store.proofs.Claimed.{IsClaim, by_claim}}
use Rattle.base_folder.proofs.filling.give_key.Goals as goal

pub returns-clause-only : goal.returns-clause-only
returns-clause-only c = grind (arith, IsClaim, by_claim)

pub returns-clause-key : goal.returns-clause-key
returns-clause-key c = grind (arith, IsClaim, by_claim)

pub returns-clause-kept : goal.returns-clause-kept
returns-clause-kept c = grind (arith, IsClaim, by_claim)

pub returns-clause-drawn : goal.returns-clause-drawn
returns-clause-drawn c = grind (arith, IsClaim, by_claim)
