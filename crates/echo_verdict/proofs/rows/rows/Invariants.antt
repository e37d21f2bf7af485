use Rattle.std.proofs.Common.{◌≡◌, ◌<◌, ℕ, length}
use Rattle.model_graph.specs.Rows.{links_at}
use Rattle.echo_verdict.specs.Rows.{IsRow, system_at}
use Rattle.echo_verdict.proofs.rows.rows.Given as goal

abbrev pub invariant-carriers : goal.invariant-carriers
invariant-carriers l = record {
  size : length l.rows.items ≡ l.system-index;
  each : (k : ℕ) → k < l.system-index → IsRow l.carriers l.links (system_at l.carriers k) (links_at l.rows.items k);
}
