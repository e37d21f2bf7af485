use Rattle.std.{proofs.Common.{◌≡◌, ◌<◌, ◌≤◌, ◌==◌, ℕ, List, length, get_or, Result, is_ok, MatchResult, ◌∙◌, arith}, specs.List.list_any}
use Rattle.std.proofs.lemmas.{List.Sorted.searched, Bool.cases_Bool, Bool.cases_lt}
use Rattle.model_graph.proofs.Rows.{holds_at, place_of, rising}
use Rattle.model_graph.proofs.graph.has_link.Goals as goal

decided : (row : List ℕ) (x : ℕ) (r : Result ℕ ℕ) → MatchResult r (λ i. (i < length row) × (get_or row i 0 ≡ x)) (λ i. (i ≤ length row) × ((k : ℕ) → k < i → get_or row k 0 < x) × ((k : ℕ) → i ≤ k → k < length row → x < get_or row k 0)) → is_ok r ≡ list_any (λ link. link == x) row
decided row x r h1 = grind (arith, holds_at, cases_Bool, place_of, cases_lt)

pub returns : goal.returns
returns c =
    c.is_ok.ensures.value ∙ decided c.args.links.now c.args.member c.binary_search.result (searched c.args.links.now c.args.member c.binary_search.result c.binary_search.ensures.position (rising c.args.links.now c.requires))
