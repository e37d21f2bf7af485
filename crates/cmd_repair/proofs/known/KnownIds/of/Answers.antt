use Rattle.std.{proofs.{Common.{map, sym}, lemmas.List.Sorted.{IsPermutation-map, list_any-IsPermutation}}, specs.Prelude.bytes_eq}
use Rattle.cmd_repair.proofs.Searching.{sorted_bytes}
use Rattle.cmd_repair.proofs.known.KnownIds.of.Goals as goal

pub invariant_of-result : goal.invariant_of-result
invariant_of-result c = sorted_bytes (λ word. word.now) c.sort_unstable.new.self.items c.sort_unstable.ensures.sorted

pub returns : goal.returns
returns c = λ word.
    let old = c.args.words.items in
    let new = c.sort_unstable.new.self.items in
    sym (list_any-IsPermutation (bytes_eq word) (map (λ one. one.now) old) (map (λ one. one.now) new) (IsPermutation-map (λ one. one.now) old new c.sort_unstable.ensures.permutation))
