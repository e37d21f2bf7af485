-- The ids of a base's messages are ids. What is printed of them is a list of just these.
use Rattle.std.proofs.Common.{◌≡◌, ℕ, suc, ◌+◌, ◌-◌, ◌<◌, ◌≤◌, Bool, true, false, List, [], ◌∷◌, length, drop, get_or, take, Option, Some, None, refl, sym, ap, subst, ◌∙◌, inl, inr, arith, length-drop, reverse}
use Rattle.std.proofs.lemmas.{Bool.{cases_Bool, ltb-true, ne_eqb, or_from, or_parts}, List.Elements.{All-filter, All-from_recursion, recursion_from_All}}
use Rattle.std.proofs.lemmas.List.{Edits.length-swap, Sorted.list_any-IsPermutation, get_or-drop, get_or-reverse, get_or-take, length-reverse, length-take-le}
use Rattle.{std.{proofs.lemmas.List.Sums.prefix_len_stops, specs.Cmp.Lexicographic.bytes_decides}, cmd_repair.proofs.Unescaped.{both, passes}}
use Rattle.std.specs.Prelude.{◌&&◌, ◌||◌, bytes_eq, filter, filter_map, map, nat_lt, not, slice_index}
use Rattle.std.specs.List.{AllByRecursion, cons_option, list_all, list_any, prefix_len, suffix_len, Sorted.apply_swaps}
use Rattle.{base_file.specs.Base.{Base, IsBase, is_known}, cmd_status.specs.declared.status.Status.Status, echo_addr.specs.Entries.is_blank}
use Rattle.echo_filed.specs.{declared.key.Key.TheVariants.ById, Filed.{Filed, IsFiled, key_of, key_with, same_key}}
use Rattle.{echo_filed.proofs.{Choices.{all_map, all_weaker, found_is}, Plain.{IsLineByte, Plain, plain_drop, plain_take}}, echo_packet.specs.Header.AreBytes}
use Rattle.echo_text.specs.{Echo.{IsLine, msgid_of}, Lines.{after_word, begins, is_tag, is_tag_byte, msgid_word, trimmed}}
use Rattle.{model_run.{proofs.Lists.{filter-no, filter-yes}, specs.Repair.is_named}, cmd_repair.specs.{IdList.ListsIds, Ids.{IsId, is_id, is_text_byte}}}
use Rattle.cmd_repair.{specs.{IdsListed.{AreIdsListed, area_ids, area_messages, is_in}, Rest.HaveByteIds, Words.most_messages}, proofs.Printed.printed-list}

-- ---- the id of a message

abbrev has_ink : List ℕ → Bool
has_ink id = not (is_blank (slice_index id 0)) && not (is_blank (slice_index id (length id - 1)))

ink-behind : (y : List ℕ) (n : ℕ) → n ≡ length y - suffix_len is_blank y → 0 < n → is_blank (get_or y (n - 1) 0) ≡ false
ink-behind y n is some =
    let s : ℕ = prefix_len is_blank (reverse y) in
    let long = length-reverse y in
    let last : length y - 1 - s ≡ n - 1 = omega (arith, is) in
    ap (λ (k : ℕ). is_blank (get_or y k 0)) (sym last)
    ∙ ap is_blank (sym (get_or-reverse y s 0 (omega (arith, is, some))))
    ∙ prefix_len_stops is_blank (reverse y) 0 (omega (arith, is, some, long))

ink-trimmed : (x : List ℕ) → nat_lt 0 (length (trimmed x)) ≡ true → has_ink (trimmed x) ≡ true
unfolding trimmed
ink-trimmed x some =
    let p : ℕ = prefix_len is_blank x in
    let y : List ℕ = drop p x in
    let n : ℕ = length y - suffix_len is_blank y in
    let id : List ℕ = take n y in
    let size : length id ≡ n = length-take-le n y (omega arith) in
    let more : 0 < n = let low = ltb-true 0 (length id) some in omega (arith, low, size) in
    let long = length-drop p x in
    let none : p + 0 ≡ p = omega arith in
    let front : is_blank (slice_index id 0) ≡ false =
    ap is_blank (get_or-take n y 0 0 more ∙ get_or-drop p x 0 0 ∙ ap (λ (k : ℕ). get_or x k 0) none) ∙ prefix_len_stops is_blank x 0 (omega (arith, long, more)) in
    let back : is_blank (slice_index id (length id - 1)) ≡ false =
    ap (λ (k : ℕ). is_blank (slice_index id (k - 1))) size ∙ ap is_blank (get_or-take n y (n - 1) 0 (omega (arith, more))) ∙ ink-behind y n refl more in
    passes (not (is_blank (slice_index id 0))) (not (is_blank (slice_index id (length id - 1)))) (ap not front) (ap not back)

abbrev IsValue : List ℕ → Type 0
IsValue id = Plain id × (nat_lt 0 (length id) ≡ true → has_ink id ≡ true)

plain-value : (line : List ℕ) → Plain line → Plain (trimmed (after_word msgid_word line))
unfolding trimmed after_word
plain-value line h = grind (arith, plain_take, plain_drop)

id-value : (m : Filed) → IsFiled m → (id : List ℕ) → msgid_of m.echo.kept ≡ Some id → (nat_lt 0 (length id) ≡ true) × IsValue id
unfolding msgid_of
id-value m is id h =
    let kept = m.echo.kept in
    let lines = filter (begins msgid_word) kept in
    let value : List ℕ → List ℕ = λ line. trimmed (after_word msgid_word line) in
    let plain : AllByRecursion Plain lines = recursion_from_All Plain lines (All-filter (begins msgid_word) Plain kept (All-from_recursion Plain kept
    (all_weaker IsLine Plain (λ line h. recursion_from_All IsLineByte line h) kept (recursion_from_All IsLine kept is.is_echo.kept_lines)))) in
    found_is IsValue (λ found. nat_lt 0 (length found)) (map value lines) (all_map IsValue Plain value (λ line h. (plain-value line h, ink-trimmed (after_word msgid_word line))) lines plain) id h

text-bytes : (id : List ℕ) → Plain id → AreBytes id → list_all is_text_byte id ≡ true
text-bytes [] plain small = refl
text-bytes (b ∷ id) plain small =
    let less : b < 256 = small 0 in
    let byte : is_text_byte b ≡ true = let zero = ne_eqb b 0 plain.0.0 in let return = ne_eqb b 13 plain.0.1 in grind arith in
    passes (is_text_byte b) (list_all is_text_byte id) byte (text-bytes id plain.1 (λ i. small (suc i)))

is-id : (m : Filed) → IsFiled m → (id : List ℕ) → msgid_of m.echo.kept ≡ Some id → AreBytes id → IsId id
is-id m is id h small =
    let v = id-value m is id h in
    passes (nat_lt 0 (length id)) (list_all is_text_byte id && has_ink id) v.0 (passes (list_all is_text_byte id) (has_ink id) (text-bytes id v.1.0 small) (v.1.1 v.0))

-- ---- the ids of the area

abbrev id_of : Filed → Option (List ℕ)
id_of m = msgid_of m.echo.kept

eq-sym : (a b : List ℕ) → bytes_eq a b ≡ bytes_eq b a
eq-sym a b = elim (cases_Bool (bytes_eq a b)) [
  | inl same ↦ same ∙ sym ((bytes_decides b a).1 (sym ((bytes_decides a b).0 same)))
  | inr other ↦ elim (cases_Bool (bytes_eq b a)) [
    | inl same ↦ (bytes_decides a b).1 (sym ((bytes_decides b a).0 same)) ∙ sym same
    | inr differ ↦ other ∙ sym differ
  ]
]

module _ (area : List ℕ) where
  abbrev AreIds : Option (List ℕ) → List (List ℕ) → Type 0
  AreIds o ids = AllByRecursion IsId (cons_option o ids)

  with-one : (m : Filed) (ids : List (List ℕ)) → IsFiled m → ((id : List ℕ) → id_of m ≡ Some id → AreBytes id) → AllByRecursion IsId ids → (o : Option (List ℕ)) → id_of m ≡ o → AreIds o ids
  with-one m ids filed small rest None none = rest
  with-one m ids filed small rest (Some id) some = (is-id m filed id some (small id some), rest)

  all-ids : (ms : List Filed) → AllByRecursion IsFiled ms → HaveByteIds ms → AllByRecursion IsId (area_ids area ms)
  all-ids [] all small = tt
  all-ids (m ∷ ms) all small =
      let rest = all-ids ms all.1 (λ x i. small x (inr i)) in
      elim (cases_Bool (is_in area m)) [
        | inl is ↦ subst (λ (l : List Filed). AllByRecursion IsId (filter_map id_of l)) (sym (filter-yes (is_in area) m ms is))
            (with-one m (area_ids area ms) all.0 (small m (inl refl)) rest (id_of m) refl)
        | inr other ↦ subst (λ (l : List Filed). AllByRecursion IsId (filter_map id_of l)) (sym (filter-no (is_in area) m ms other)) rest
      ]

  in-known : (m : Filed) (id : List ℕ) (o : Option (List ℕ)) → id_of m ≡ o → is_in area m ≡ true → (ids : List (List ℕ)) (rest : Bool) → list_any (bytes_eq id) ids ≡ rest
      → list_any (bytes_eq id) (cons_option o ids) ≡ (same_key (key_with m o) (ById area id) || rest)
  in-known m id None none is ids rest later = later
  in-known m id (Some x) some is ids rest later =
      ap (λ (b : Bool). bytes_eq id x || b) later
      ∙ ap (λ (b : Bool). b || rest) (eq-sym id x ∙ sym (ap (λ (b : Bool). b && bytes_eq x id) is))

  out-known : (m : Filed) (id : List ℕ) (o : Option (List ℕ)) → is_in area m ≡ false → same_key (key_with m o) (ById area id) ≡ false
  out-known m id None other = refl
  out-known m id (Some x) other = ap (λ (b : Bool). b && bytes_eq x id) other

  pub named-known : (id : List ℕ) (ms : List Filed) → is_named (area_ids area ms) (Some id) ≡ is_known ms (ById area id)
  unfolding key_of
  named-known id [] = refl
  named-known id (m ∷ ms) =
      let later = named-known id ms in
      elim (cases_Bool (is_in area m)) [
        | inl is ↦ ap (λ (l : List Filed). list_any (bytes_eq id) (filter_map id_of l)) (filter-yes (is_in area) m ms is)
            ∙ in-known m id (id_of m) refl is (area_ids area ms) (is_known ms (ById area id)) later
        | inr other ↦ ap (λ (l : List Filed). list_any (bytes_eq id) (filter_map id_of l)) (filter-no (is_in area) m ms other)
            ∙ later ∙ ap (λ (b : Bool). b || is_known ms (ById area id)) (sym (out-known m id (id_of m) other))
      ]

more-one : {X : Type 0} (o : Option X) (xs : List X) (n : ℕ) → length xs ≤ n → length (cons_option o xs) ≤ suc n
more-one None xs n h = omega (arith, h)
more-one (Some x) xs n h = omega (arith, h)

few-ids : (ms : List Filed) → length (filter_map id_of ms) ≤ length ms
few-ids [] = omega arith
few-ids (m ∷ ms) = more-one (id_of m) (filter_map id_of ms) (length ms) (few-ids ms)

-- ---- in another order

length-moved : (xs : List (List ℕ)) (moves : List (ℕ × ℕ)) → length (apply_swaps xs moves) ≡ length xs
length-moved xs [] = refl
length-moved xs (p ∷ moves) = length-swap (apply_swaps xs moves) p.0 p.1 ∙ length-moved xs moves

none-other : (xs : List (List ℕ)) → AllByRecursion IsId xs → list_any (λ id. not (is_id id)) xs ≡ false
none-other [] all = refl
none-other (x ∷ xs) all = or_from (not (is_id x)) (list_any (λ id. not (is_id id)) xs) (ap not all.0) (none-other xs all.1)

each-id : (xs : List (List ℕ)) → list_any (λ id. not (is_id id)) xs ≡ false → AllByRecursion IsId xs
each-id [] none = tt
each-id (x ∷ xs) none =
    let parts = or_parts (not (is_id x)) (list_any (λ id. not (is_id id)) xs) none in
    (let here : is_id x ≡ true = let other = parts.0 in grind arith in here, each-id xs parts.1)

pub base-listed : (area list : List ℕ) (base : Base) (status : Status) → is_tag area ≡ true → IsBase base.messages base.cursor → HaveByteIds base.messages → length (area_messages area base.messages) ≤ most_messages
    → AreIdsListed area base list status → ListsIds area list (area_ids area base.messages)
base-listed area list base status tag is small few listed =
    let own = area_ids area base.messages in
    printed-list area list (both _ (list_all is_tag_byte area) tag).1 (length (area_messages area base.messages)) own listed.ids
    (each-id listed.ids (sym (list_any-IsPermutation (λ id. not (is_id id)) own listed.ids listed.are_ids) ∙ none-other own (all-ids area base.messages is.each small)))
    (let size = few-ids (area_messages area base.messages) in let same : length listed.ids ≡ length own = ap length listed.are_ids.is ∙ length-moved own listed.are_ids.moves in omega (arith, size, same))
    few listed.are_ids listed.printed
