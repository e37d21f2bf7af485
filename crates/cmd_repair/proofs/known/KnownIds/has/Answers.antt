use Rattle.std.{proofs.Common.{◌∙◌, Bor, List, ap, map, subst, sym, ℕ}, specs.{Cmp.Lexicographic.slice_cmp, List.{Sorted.IsSortedBy, list_any}}}
use Rattle.{std.specs.{Ordering.{is_lt, nat_cmp}, Prelude.bytes_eq}, cmd_repair.proofs.Searching.{searched, sorted_words}}
use Rattle.cmd_repair.proofs.known.KnownIds.has.Goals as goal

pub returns : goal.returns
returns c =
    let word = c.args.word.now in
    let own = c.self.inside.sorted.items in
    let bytes : Bor (List ℕ) → List ℕ = λ one. one.now in
    let sorted = subst (IsSortedBy (λ x y. is_lt (slice_cmp nat_cmp (bytes x) (bytes y)))) (sym c.as_slice.ensures.value) (sorted_words bytes own c.self.invariant) in
    c.is_ok.ensures.value
    ∙ searched bytes c.as_slice.result.now word c.binary_search.result sorted c.binary_search.ensures.bound c.binary_search.ensures.position
    ∙ ap (λ l. list_any (bytes_eq word) (map bytes l)) c.as_slice.ensures.value ∙ ap (list_any (bytes_eq word)) c.self.view_is
