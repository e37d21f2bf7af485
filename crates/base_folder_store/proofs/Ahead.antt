-- Parts of files that were read ahead.
use Rattle.std.proofs.Common.{◌≡◌, ◌≤◌, ◌+◌, ◌-◌, ◌++◌, ℕ, List, [], length, take, drop, sym, ap, ◌∙◌, arith, append_assoc, length-append, length-drop}
use Rattle.std.proofs.lemmas.List.{drop-append-le, drop-drop, drop-take, length-take-le, take-append-drop, take-append-le}
use Rattle.base_folder_store.specs.{Ahead.Covers, Ahead.IsPartOf, declared.read_ahead.ReadAhead.ReadAhead}

pub part_grows : (bytes more : List ℕ) (ahead : ReadAhead) → IsPartOf bytes ahead → IsPartOf (bytes ++ more) ahead
part_grows bytes more ahead is = record {
  rest = is.rest ++ more;
  within = let within = is.within in omega (arith, within, length-append bytes more);
  behind = drop-append-le ahead.from bytes more is.within ∙ ap (λ (l : List ℕ). l ++ more) is.behind ∙ append_assoc ahead.bytes.items is.rest more;
}

pub part_read : (all : List ℕ) (ahead : ReadAhead) (to : ℕ) → ahead.from ≤ to → to ≤ length all → ahead.bytes.items ≡ drop ahead.from (take to all) → IsPartOf all ahead
part_read all ahead to order within is = record {
  rest = drop to all;
  within = omega (arith, order, within);
  behind = ap (λ (l : List ℕ). drop ahead.from l) (sym (take-append-drop to all))
      ∙ drop-append-le ahead.from (take to all) (drop to all) (omega (arith, order, length-take-le to all within))
      ∙ ap (λ (l : List ℕ). l ++ drop to all) (sym is);
}

pub part_is : (file : List ℕ) (ahead : ReadAhead) (begins ends : ℕ) → IsPartOf file ahead → Covers ahead begins ends → begins ≤ ends
    → take (ends - ahead.from - (begins - ahead.from)) (drop (begins - ahead.from) ahead.bytes.items) ≡ drop begins (take ends file)
part_is file ahead begins ends is has order =
    let from = ahead.from in
    let start = begins - from in
    let count = ends - begins in
    let first = has.first in
    let last = has.last in
    let size : ends - from - start ≡ count = omega (arith, first, order) in
    let at : from + start ≡ begins = omega (arith, first) in
    let inside : start ≤ length ahead.bytes.items = omega (arith, first, last, order) in
    let room : count ≤ length (drop start ahead.bytes.items) = omega (arith, first, last, order, length-drop start ahead.bytes.items) in
    let all : begins + count ≡ ends = omega (arith, order) in
    let behind : drop begins file ≡ drop start ahead.bytes.items ++ is.rest = ap (λ (n : ℕ). drop n file) (sym at)
    ∙ sym (drop-drop start from file)
    ∙ ap (λ (l : List ℕ). drop start l) is.behind
    ∙ drop-append-le start ahead.bytes.items is.rest inside in
    ap (λ (n : ℕ). take n (drop start ahead.bytes.items)) size
    ∙ sym (take-append-le count (drop start ahead.bytes.items) is.rest room)
    ∙ ap (λ (l : List ℕ). take count l) (sym behind)
    ∙ sym (drop-take begins count file)
    ∙ ap (λ (n : ℕ). drop begins (take n file)) all

pub part_empty : (file : List ℕ) (ahead : ReadAhead) → ahead.from ≤ length file → ahead.bytes.items ≡ [] → IsPartOf file ahead
part_empty file ahead within none = record {
  rest = drop ahead.from file;
  within = within;
  behind = ap (λ (l : List ℕ). l ++ drop ahead.from file) (sym none);
}
