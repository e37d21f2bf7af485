use Rattle.std.proofs.Common.{◌<◌, ℕ, get_or}
use Rattle.model_graph.proofs.sound.is_ascending.Given as goal

abbrev pub invariant-links : goal.invariant-links
invariant-links l = (i j : ℕ) → i < j → j < l.place → get_or l.links i 0 < get_or l.links j 0
