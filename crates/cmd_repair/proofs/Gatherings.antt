use Rattle.std.proofs.Common.{◌≡◌, ℕ, ◌+◌, ◌<◌, List, [], ◌∷◌, ◌++◌, length, take, Option, Some, inl, inr, sym, ap, subst, ◌∙◌, arith, length-append}
use Rattle.std.{proofs.lemmas.{List.{Elements.{filter-append, filter_map-append}, take_more}, Option.slice_get_cases}, specs.Prelude.{filter_map, slice_get}}
use Rattle.{echo_filed.specs.Filed.Filed, echo_text.specs.Echo.msgid_of}
use Rattle.cmd_repair.specs.IdsListed.{Gathers, area_ids, area_messages, ids_at, is_in, messages_at}

pub one_next : (base : List Filed) (i : ℕ) (m : Option Filed) → m ≡ slice_get base i → i < length base → (x : Filed) × (m ≡ Some x) × (take (i + 1) base ≡ take i base ++ x ∷ [])
one_next base i m here within = elim (slice_get_cases base i).1 [
  | inl (x, below, got, read) ↦ (x, here ∙ got, take_more base i x within ∙ ap (λ y. take i base ++ y ∷ []) read)
  | inr past ↦ absurd (let less = past.0 in omega (arith, less, within))
]

messages_next : (area : List ℕ) (base : List Filed) (i : ℕ) (m : Option Filed) → m ≡ slice_get base i → i < length base
    → area_messages area (take (i + 1) base) ≡ area_messages area (take i base) ++ messages_at area m
messages_next area base i m here within =
    let next = one_next base i m here within in
    ap (area_messages area) next.2 ∙ filter-append (is_in area) (take i base) (next.0 ∷ [])
    ∙ ap (λ o. area_messages area (take i base) ++ messages_at area o) (sym next.1)

ids_next : (area : List ℕ) (base : List Filed) (i : ℕ) (m : Option Filed) → m ≡ slice_get base i → i < length base
    → area_ids area (take (i + 1) base) ≡ area_ids area (take i base) ++ ids_at area m
ids_next area base i m here within =
    let next = one_next base i m here within in
    ap (area_ids area) next.2
    ∙ ap (filter_map (λ one. msgid_of one.echo.kept)) (filter-append (is_in area) (take i base) (next.0 ∷ []))
    ∙ filter_map-append (λ one. msgid_of one.echo.kept) (area_messages area (take i base)) (area_messages area (next.0 ∷ []))
    ∙ ap (λ o. area_ids area (take i base) ++ ids_at area o) (sym next.1)

pub gathered_next : (area : List ℕ) (base : List Filed) (i : ℕ) (m : Option Filed) (bytes lengths : List ℕ) (many : ℕ) → m ≡ slice_get base i → i < length base
    → Gathers (area_ids area (take i base) ++ ids_at area m) (length (area_messages area (take i base)) + length (messages_at area m)) bytes lengths many
    → Gathers (area_ids area (take (i + 1) base)) (length (area_messages area (take (i + 1) base))) bytes lengths many
gathered_next area base i m bytes lengths many here within gathers =
    let count : length (area_messages area (take (i + 1) base)) ≡ length (area_messages area (take i base)) + length (messages_at area m) =
    ap length (messages_next area base i m here within) ∙ length-append (area_messages area (take i base)) (messages_at area m) in
    subst (λ ids. Gathers ids (length (area_messages area (take (i + 1) base))) bytes lengths many) (sym (ids_next area base i m here within))
    (subst (λ n. Gathers (area_ids area (take i base) ++ ids_at area m) n bytes lengths many) (sym count) gathers)
