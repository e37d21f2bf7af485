use Rattle.std.{proofs.Common.{take, ℕ}, specs.List.AllZip}
use Rattle.echo_verdict.specs.declared.link.Link.{Link}
use Rattle.model_graph.specs.Walk.{IsAt}
use Rattle.echo_verdict.proofs.rows.row.Given as goal

abbrev pub invariant-links : goal.invariant-links
invariant-links l = AllZip (λ (m : Link) (j : ℕ). IsAt l.carriers j m.to) (take l.link-index l.links) l.row.items
