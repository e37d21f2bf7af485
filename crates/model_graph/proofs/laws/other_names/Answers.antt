use Rattle.model_graph.proofs.Renaming.{Polygons-renamed, Cycle-renamed}
use Rattle.model_graph.proofs.laws.other_names.Goals as goal

pub returns : goal.returns
returns c = record {
  polygons = λ linked joined. Polygons-renamed linked joined;
  cycles = λ linked joined name back renaming. Cycle-renamed linked joined name back renaming;
}
