use Rattle.{std.proofs.Common.{List, map, ℕ}, cmd_repair.{specs.IdsListed.Gathers, proofs.Cutting.IsCut}}
use Rattle.cmd_repair.proofs.gathering.ids_of.Given as goal

abbrev pub invariant-ids : goal.invariant-ids
invariant-ids l = (ids : List (List ℕ)) (many : ℕ) → Gathers ids many l.gathered.bytes.items l.gathered.lengths.items l.gathered.messages
    → IsCut ids (map (λ id. id.now) l.all.items) l.rest l.gathered.lengths.items l.size-index
