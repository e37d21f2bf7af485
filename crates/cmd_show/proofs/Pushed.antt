-- Lines that follow those held back.
use Rattle.{std.proofs.Common.{◌≡◌, ℕ, List, [], ◌++◌, ap, ◌∙◌}, cmd_status.proofs.Lines.alone}

pub added_behind : (none line more behind all : List ℕ) → none ≡ [] → more ≡ none ++ line → all ≡ behind ++ more → all ≡ behind ++ line
added_behind none line more behind all nothing made is = is ∙ ap (λ t. behind ++ t) (alone none more line nothing made)
