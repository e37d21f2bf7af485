-- A buffer before a source: the bytes that leave its front, and the bytes that remain.
use Rattle.std.proofs.Common.{◌≡◌, ℕ, ◌+◌, ◌-◌, ◌<◌, ◌≤◌, min, List, [], ◌++◌, Option, length, take, drop, slice_range, sym, ap, subst, ◌∙◌, arith, drop-drop, take-append-drop}
use Rattle.std.proofs.{lemmas.List.drop-take, lemmas.List.nil_from_length, Math.Seq.drop-nil, KnownBytes.prepend_known-read, KnownBytes.prepend_known-nil}
use Rattle.std.specs.Io.KnownBytes.{Consumes, IsAtEnd, Keeps, prepend_known}

pub slice_range-later : (xs : List ℕ) (start end n : ℕ) → start + n ≤ end → slice_range xs (start + n) end ≡ drop n (slice_range xs start end)
slice_range-later xs start end n within =
    let whole : n + (end - (start + n)) ≡ end - start = omega arith in
    ap (take (end - (start + n))) (sym (drop-drop n start xs))
    ∙ sym (drop-take n (end - (start + n)) (drop start xs))
    ∙ ap (λ k. drop n (take k (drop start xs))) whole

empty_where_none : (held : List ℕ) (room n : ℕ) → n ≡ min (length held) room → n ≡ 0 → 0 < room → held ≡ []
empty_where_none held room n count none some = nil_from_length held (omega arith)

pub taken_from_front : (a b : Option (List ℕ)) (held buf : List ℕ) (n room : ℕ) → Keeps a (prepend_known held b)
    → (held ≡ [] → IsAtEnd (prepend_known held b)) → n ≡ min (length held) room → take n buf ≡ take n held
    → Consumes a (prepend_known (drop n held) b) (take n buf) × (n ≡ 0 → 0 < room → IsAtEnd (prepend_known (drop n held) b))
taken_from_front a b held buf n room kept end count same =
    let whole : held ≡ take n buf ++ drop n held =
    sym (take-append-drop n held) ∙ ap (λ l. l ++ drop n held) (sym same) in
    let at_end : (n ≡ 0) × (0 < room) → (drop n held ≡ []) × IsAtEnd b =
    λ none. let empty = empty_where_none held room n count none.0 none.1 in
    (ap (drop n) empty ∙ drop-nil n, subst IsAtEnd (ap (λ l. prepend_known l b) empty ∙ prepend_known-nil b) (end empty)) in
    let both = prepend_known-read a b held (drop n held) (take n buf) ((n ≡ 0) × (0 < room)) kept whole at_end in
    (both.0, λ none some. both.1 (none, some))
