use Rattle.model_graph.proofs.Turns.{IsCycle-rotated, Cycle-reversed}
use Rattle.model_graph.proofs.laws.cycle_written_anew.Goals as goal

pub returns : goal.returns
returns c = record { turned = λ linked. IsCycle-rotated linked; reversed = λ linked. Cycle-reversed linked }
