use Rattle.std.proofs.Common.{◌≡◌, ◌<◌, ◌+◌, ◌++◌, ◌∷◌, [], ℕ, List, length, sym, subst, ap, ◌∙◌, arith}
use Rattle.echo_addr.specs.declared.address.Address.{Address}
use Rattle.model_graph.specs.Rows.{links_at}
use Rattle.echo_verdict.{specs.{declared.link.Link.Link, Rows.{IsRow, system_at}}, proofs.Owned.{is_row, one_row_more}}
use Rattle.echo_verdict.proofs.rows.rows.Goals as goal

pub row-requires-clause-known : goal.row-requires-clause-known
row-requires-clause-known c = λ l h. c.requires.known l ((c.outgoing_links-run.ensures l).0 h).0

pub carriers-preserved : goal.carriers-preserved
carriers-preserved c =
    let carriers : List Address = c.args.carriers.now in
    let links : List Link = c.args.links.now in
    let i = c.carriers.system-index in
    let row : List ℕ = c.in_ok-row.row.items in
    let is : c.push.new.self.items ≡ c.carriers.rows.items ++ row ∷ [] = grind arith in
    let here = is_row carriers links c.outgoing_links-run.result.now (system_at carriers i) row c.outgoing_links-run.ensures c.in_ok-row.ensures.ascending c.in_ok-row.ensures.members in
    let more = one_row_more carriers links i c.carriers.rows.items row c.carriers.invariant.size c.carriers.invariant.each here in
    record {
      size = ap length is ∙ more.0;
      each = subst (λ (rows : List (List ℕ)). (k : ℕ) → k < i + 1 → IsRow carriers links (system_at carriers k) (links_at rows k)) (sym is) more.1;
    }
